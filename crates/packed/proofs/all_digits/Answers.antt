-- `packed::all_digits` meets its contract: each turn tests the lowest digit that is left, and the rest is tested by the turns after it. Assumes nothing.
use mathlib.Core.Bool.{Bool, ◌&&◌}
use borrow.Author.Tests.{lt-ltb, le-ltb}
use native.Mathlib.Omega.{arith}
use mathlib.Core.Path.{◌≡◌, sym, ap, ◌∙◌}
use Prim.Native.Nat.{ℕ, ◌+◌, ◌-◌, ◌/◌, ◌%◌, ◌<◌}
use Rattle.packed.proofs.Decimal as Decimal
use Rattle.packed.specs.Packed.{digits_below}
use Rattle.packed.proofs.all_digits.Goals as goal

pub loop-init : goal.loop-init
loop-init c = let e : c.args.d ≡ c.args.d - 0 = omega arith in
    ap (λ (k : ℕ). digits_below 16 10 k c.args.p) e

pub returns-then-rest-gt9 : goal.returns-then-rest-gt9
returns-then-rest-gt9 c = let l = c.loop in
    let a = c.args in
    let h : l.counter < a.d = omega arith in
    sym (l.invariant ∙ Decimal.step-below 16 10 a.d l.counter l.rest h ∙ ap (λ (b : Bool). b && digits_below 16 10 (a.d - (l.counter + 1)) (l.rest / 16)) (le-ltb (l.rest % 16) 10 c.if-rest-gt9.true))

pub loop-preserved : goal.loop-preserved
loop-preserved c = let l = c.loop in
    let a = c.args in
    let h : l.counter < a.d = omega arith in
    let g : l.rest % 16 < 10 = omega arith in
    l.invariant ∙ Decimal.step-below 16 10 a.d l.counter l.rest h ∙ ap (λ (b : Bool). b && digits_below 16 10 (a.d - (l.counter + 1)) (l.rest / 16)) (lt-ltb (l.rest % 16) 10 g)

pub returns : goal.returns
returns c = let l = c.loop in
    let a = c.args in
    sym (l.invariant ∙ Decimal.none_below 16 10 a.d l.counter l.rest (omega arith))
