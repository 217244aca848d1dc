-- `values::div_signed` meets its contract. By -1 the quotient is the negative number, which wraps; by any other divisor it fits. Assumes nothing.
use lib.Signed.{quot_z}
use Rattle.std.proofs.Common.{◌≡◌, ◌*◌, ℤ, negsuc, neg_ℤ, sym, ap, ◌∙◌, w64, to_z, of_z}
use Rattle.values.proofs.Widths as Widths
use Rattle.values.proofs.Signs as Signs
use Rattle.values.specs.Width.{wrap}
use Rattle.values.proofs.div_signed.Goals as goal

pub nonzero_div-x : goal.nonzero_div-x
nonzero_div-x c = Signs.quotient-asks c.args.x c.args.y c.ranges.x.sfits c.ranges.y.sfits c.requires.1 c.if-y-eqminus1.false

pub wrap_signed-requires : goal.wrap_signed-requires
wrap_signed-requires c = (Widths.width-pos c.requires.0, Widths.width-le c.requires.0)

pub returns-then-y-eqminus1 : goal.returns-then-y-eqminus1
returns-then-y-eqminus1 c = let y : c.args.y ≡ negsuc 0 = Signs.minus-one-bits c.args.y c.ranges.y.sfits c.if-y-eqminus1.true in
    Signs.read64 c.neg_signed.result c.neg_signed.type_inv ∙ c.neg_signed.ensures
    ∙ ap (λ (z : ℤ). wrap (8 * c.args.w) (neg_ℤ z)) (Signs.read64 c.args.x c.ranges.x.sfits)
    ∙ ap (wrap (8 * c.args.w)) (sym (Widths.quot-minus-one c.args.x) ∙ ap (quot_z c.args.x) (sym y))

pub returns-else-y-eqminus1 : goal.returns-else-y-eqminus1
returns-else-y-eqminus1 c = let q = Signs.read-both quot_z c.args.x c.args.y c.ranges.x.sfits c.ranges.y.sfits in
    Signs.read64 c.wrap_signed.result c.wrap_signed.type_inv ∙ c.wrap_signed.ensures
    ∙ ap (λ (z : ℤ). wrap (8 * c.args.w) (to_z w64 (of_z w64 z))) q
    ∙ ap (wrap (8 * c.args.w)) (Signs.read64 (quot_z c.args.x c.args.y) (Signs.quot_fits c.args.x c.args.y c.ranges.x.sfits c.ranges.y.sfits c.if-y-eqminus1.false))
