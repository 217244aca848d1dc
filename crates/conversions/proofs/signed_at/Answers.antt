-- `conversions::signed_at` meets its contract: below zero n - 1 is compared with the half, above it n. Assumes nothing.
use mir.Facts.{to_z_pos}
use Rattle.std.proofs.Common.{ℕ, ◌-◌, ◌^◌, ◌<◌, ◌≤◌, true, false, ℤ, sym, refl, ap, ◌∙◌, subst, arith, w64}
use Rattle.values.specs.declared.Value.TheVariants.{Signed}
use Rattle.values.proofs.Signs.{read64}
use Rattle.values.proofs.Widths as Widths
use Rattle.std.specs.Prelude.{Some}
use Rattle.conversions.proofs.Whole as Whole
use Rattle.conversions.proofs.signed_at.Goals as goal

pub returns-then-n-eq0 : goal.returns-then-n-eq0
returns-then-n-eq0 c = let a = c.args in
    Whole.signed-zero a.negative a.w ∙ Whole.held_same true true a.negative a.negative a.w 0 a.n refl refl (sym c.if-n-eq0.true)

pub below_zero-requires : goal.below_zero-requires
below_zero-requires c = omega (arith, c.half_of-half.ensures, Widths.half_le c.args.w c.requires.1)

pub overflow_cast-result : goal.overflow_cast-result
overflow_cast-result c = record { sfits = omega (arith, c.half_of-half.ensures, Widths.half_le c.args.w c.requires.1) }

pub returns-then-n-half : goal.returns-then-n-half
returns-then-n-half c = let h = c.half_of-half.ensures in
    let n = c.args.n in
    let p : 0 < n = omega arith in
    ap (λ (z : ℤ). Some (Signed z)) (read64 c.below_zero.result c.below_zero.type_inv ∙ c.below_zero.ensures)
    ∙ Whole.below-held c.args.w n p (subst (λ (x : ℕ). n - 1 < x) h c.if-n-half.true)
    ∙ Whole.held_same true true true c.args.negative c.args.w n n refl (sym c.if-negative.true) refl

pub returns-else-n-half : goal.returns-else-n-half
returns-else-n-half c = let h = c.half_of-half.ensures in
    let n = c.args.n in
    let p : 0 < n = omega arith in
    Whole.below-fault c.args.w n p (subst (λ (x : ℕ). x ≤ n - 1) h c.if-n-half.false)
    ∙ Whole.held_same true true true c.args.negative c.args.w n n refl (sym c.if-negative.true) refl

pub returns-then-n-half-2 : goal.returns-then-n-half-2
returns-then-n-half-2 c = let h = c.half_of-half.ensures in
    let n = c.args.n in
    let l : n < 2 ^ 63 = omega (arith, h, Widths.half_le c.args.w c.requires.1) in
    ap (λ (z : ℤ). Some (Signed z)) (to_z_pos w64 l)
    ∙ Whole.above-held c.args.w n (subst (λ (x : ℕ). n < x) h c.if-n-half-2.true)
    ∙ Whole.held_same true true false c.args.negative c.args.w n n refl (sym c.if-negative.false) refl

pub returns-else-n-half-2 : goal.returns-else-n-half-2
returns-else-n-half-2 c = let h = c.half_of-half.ensures in
    let n = c.args.n in
    Whole.above-fault c.args.w n (subst (λ (x : ℕ). x ≤ n) h c.if-n-half-2.false)
    ∙ Whole.held_same true true false c.args.negative c.args.w n n refl (sym c.if-negative.false) refl
