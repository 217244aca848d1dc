-- `memory::move_words` meets its contract. Both loops keep the same: what is left to move makes of the list what the whole move makes of the
-- first one. Assumes nothing.
use mathlib.Core.Path.{◌≡◌}
use Prim.Native.Nat.{◌+◌, ◌-◌, ◌*◌}
use lib.ListN.{length}
use Rattle.memory.specs.Memory.{splice, part}
use Rattle.memory.proofs.move_words.Given as goal

abbrev pub invariant-loop-i : goal.invariant-loop-i
invariant-loop-i l = (length l.d ≡ length l.fn.d) × (splice l.d (l.to + 8 * l.i) (part l.d (l.from + 8 * l.i) (l.n - 8 * l.i)) ≡ splice l.fn.d l.to (part l.fn.d l.from l.n))

abbrev pub invariant-loop-i-2 : goal.invariant-loop-i-2
invariant-loop-i-2 l = (length l.d ≡ length l.fn.d) × (splice l.d (l.to + l.i) (part l.d (l.from + l.i) (l.n - l.i)) ≡ splice l.fn.d l.to (part l.fn.d l.from l.n))
