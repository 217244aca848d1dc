-- `packed::unpack` meets its contract: from the top digit down, r has the digits above place i. Assumes nothing.
use native.Mathlib.Nat.{le_refl}
use native.Mathlib.Omega.{arith}
use mathlib.Core.Path.{◌≡◌, sym, ap, subst, ◌∙◌}
use Prim.Native.Nat.{ℕ, ◌+◌, ◌-◌, ◌*◌, ◌/◌, ◌%◌, ◌^◌, ◌<◌}
use Rattle.packed.proofs.Decimal as Decimal
use Rattle.packed.proofs.unpack.Goals as goal

pub loop-i-init : goal.loop-i-init
loop-i-init c = let d = c.args.d in
    let z : d - d ≡ 0 = omega arith in
    (sym (Decimal.none 16 10 d d (c.args.p / 2 ^ (4 * d)) (le_refl d)), subst (λ (x : ℕ). 0 < 2 ^ (4 * x)) (sym z) (omega arith))

pub overflow_mul-n : goal.overflow_mul-n
overflow_mul-n c = let l = c.loop-i in
    let a = c.args in
    record { fits = omega (arith, l.invariant.1, Decimal.unpack-room a.d l.i (omega arith) (omega arith)) }

pub overflow_add-n : goal.overflow_add-n
overflow_add-n c = let l = c.loop-i in
    let a = c.args in
    record { fits = omega (arith, l.invariant.1, Decimal.unpack-room a.d l.i (omega arith) (omega arith)) }

pub loop-i-preserved : goal.loop-i-preserved
loop-i-preserved c = let l = c.loop-i in
    let a = c.args in
    let i = l.i in
    let p : 0 < i = omega arith in
    let g : a.p / c.weight_at.result % 16 < 16 = omega arith in (
      ap (λ (x : ℕ). l.n * 10 + a.p / x % 16) c.weight_at.ensures ∙ ap (λ (x : ℕ). x * 10 + a.p / 2 ^ (4 * (i - 1)) % 16) l.invariant.0 ∙ Decimal.unpack-step a.d i a.p p l.auto.i,
      Decimal.unpack-lt a.d i l.n (a.p / c.weight_at.result % 16) p l.auto.i l.invariant.1 g,
    )
