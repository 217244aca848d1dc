-- `copies::move_singly` meets its contract. The invariant: what is left to move makes of the list what the whole move makes of the first one.
-- Assumes nothing.
use mathlib.Core.Path.{◌≡◌}
use Prim.Native.Nat.{◌+◌, ◌-◌}
use lib.ListN.{length}
use Rattle.memory.specs.Memory.{splice, part}
use Rattle.copies.proofs.move_singly.Given as goal

abbrev pub invariant-loop-i : goal.invariant-loop-i
invariant-loop-i l = (length l.d ≡ length l.fn.d) × (splice l.d (l.to + l.i) (part l.d (l.from + l.i) (l.n - l.i)) ≡ splice l.fn.d l.to (part l.fn.d l.from l.n))
