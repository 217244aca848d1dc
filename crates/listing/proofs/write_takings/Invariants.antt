-- `listing::write_takings` meets its contract. The invariant: the takings that are left are still to be written, and each before took three bytes.
-- Assumes nothing.
use Prim.Native.Nat.{◌+◌, ◌*◌}
use mathlib.Core.Path.{◌≡◌}
use mathlib.Core.List.{map}
use lib.ListN.{take, drop}
use Rattle.memory.specs.Memory.{flat}
use Rattle.listing.specs.Listing.{taking_text}
use Rattle.listing.proofs.Writing.{Writing}
use Rattle.listing.proofs.write_takings.Given as goal

abbrev pub invariant-loop-byte : goal.invariant-loop-byte
invariant-loop-byte l = (l.next ≡ l.at + 3 * l.byte-index)
    × Writing l.initial.out l.at (flat (map taking_text (take l.taken l.list))) l.out l.next (flat (map taking_text (drop l.byte-index l.takings)))
