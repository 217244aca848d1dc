-- `conversions::unsigned_at` meets its contract. n is below 2 ^ (8 * w) exactly if its half is below half of that. Assumes nothing.
use Rattle.std.proofs.Common.{◌<◌, true, false, sym, refl, ◌∙◌, arith}
use Rattle.values.proofs.Widths as Widths
use Rattle.conversions.proofs.Whole as Whole
use Rattle.conversions.proofs.unsigned_at.Goals as goal

pub returns-then-number-eq0 : goal.returns-then-number-eq0
returns-then-number-eq0 c = let a = c.args in
    Whole.unsigned-zero a.negative a.w ∙ Whole.held_same false false a.negative a.negative a.w 0 a.number refl refl (sym c.if-number-eq0.true)

pub returns-then-negative : goal.returns-then-negative
returns-then-negative c = let a = c.args in
    let p : 0 < a.number = omega arith in
    Whole.negative-fault a.w a.number p ∙ Whole.held_same false false true a.negative a.w a.number a.number refl (sym c.if-negative.true) refl

pub returns-then-number-half_of : goal.returns-then-number-half_of
returns-then-number-half_of c = let n = c.args.number in
    Whole.unsigned-held c.args.w n (omega (arith, c.half_of.ensures, c.if-number-half_of.true, Widths.two-halves c.args.w c.requires.0))
    ∙ Whole.held_same false false false c.args.negative c.args.w n n refl (sym c.if-negative.false) refl

pub returns-else-number-half_of : goal.returns-else-number-half_of
returns-else-number-half_of c = let n = c.args.number in
    Whole.unsigned-fault c.args.w n (omega (arith, c.half_of.ensures, c.if-number-half_of.false, Widths.two-halves c.args.w c.requires.0))
    ∙ Whole.held_same false false false c.args.negative c.args.w n n refl (sym c.if-negative.false) refl
