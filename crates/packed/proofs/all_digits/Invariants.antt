-- `packed::all_digits` meets its contract: each turn tests the lowest digit that is left, and the rest is tested by the turns after it. Assumes nothing.
use mathlib.Core.Path.{◌≡◌}
use Prim.Native.Nat.{◌-◌}
use Rattle.packed.specs.Packed.{digits_below}
use Rattle.packed.proofs.all_digits.Given as goal

abbrev pub invariant-loop : goal.invariant-loop
invariant-loop l = digits_below 16 10 l.d l.p ≡ digits_below 16 10 (l.d - l.counter) l.rest
