-- `packed::pack` meets its contract: after i turns r has the lowest i digits, and the rest has those above them. Assumes nothing.
use mathlib.Core.Path.{◌≡◌}
use Prim.Native.Nat.{◌+◌, ◌-◌, ◌*◌, ◌/◌, ◌^◌, ◌<◌}
use Rattle.packed.specs.Packed.{packed_digits}
use Rattle.packed.proofs.pack.Given as goal

abbrev pub invariant-loop-i : goal.invariant-loop-i
invariant-loop-i l = (l.packed + 2 ^ (4 * l.i) * packed_digits (l.d - l.i) l.rest ≡ packed_digits l.d l.n) × (l.packed < 2 ^ (4 * l.i)) × (l.rest ≡ l.n / 10 ^ l.i)
