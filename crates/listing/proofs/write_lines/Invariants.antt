-- `listing::write_lines` meets its contract. The invariant: the lines that are left are still to be written, and each before took at most 30 bytes.
-- Assumes nothing.
use Prim.Native.Nat.{◌+◌, ◌*◌, ◌≤◌}
use lib.ListN.{take, drop}
use Rattle.listing.specs.Listing.{core_lines}
use Rattle.listing.proofs.Writing.{Writing}
use Rattle.listing.proofs.write_lines.Given as goal

abbrev pub invariant-loop-k : goal.invariant-loop-k
invariant-loop-k l = (l.next ≤ l.at + 30 * l.k)
    × Writing l.initial.out l.at (core_lines 0 (take l.n l.cores)) l.out l.next (core_lines l.k (drop l.k (take l.n l.cores)))
