-- `listing::write_text` meets its contract. The invariant: what is left of the text is still to be written.
-- Assumes nothing.
use Prim.Native.Nat.{◌+◌}
use mathlib.Core.Path.{◌≡◌}
use lib.ListN.{drop}
use Rattle.listing.proofs.Writing.{Writing}
use Rattle.listing.proofs.write_text.Given as goal

abbrev pub invariant-loop-byte : goal.invariant-loop-byte
invariant-loop-byte l = (l.next ≡ l.at + l.byte-index) × Writing l.initial.out l.at l.text l.out l.next (drop l.byte-index l.text)
