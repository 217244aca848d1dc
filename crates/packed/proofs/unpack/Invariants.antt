-- `packed::unpack` meets its contract: from the top digit down, r has the digits above place i. Assumes nothing.
use mathlib.Core.Path.{◌≡◌}
use Prim.Native.Nat.{◌-◌, ◌*◌, ◌/◌, ◌^◌, ◌<◌}
use Rattle.packed.specs.Packed.{unpacked_digits}
use Rattle.packed.proofs.unpack.Given as goal

abbrev pub invariant-loop-i : goal.invariant-loop-i
invariant-loop-i l = (l.n ≡ unpacked_digits (l.d - l.i) (l.p / 2 ^ (4 * l.i))) × (l.n < 2 ^ (4 * (l.d - l.i)))
