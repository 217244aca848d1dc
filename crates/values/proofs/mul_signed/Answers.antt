-- `values::mul_signed` meets its contract. The product of the patterns, cut to the width, is the pattern of the product (`modular`). Assumes nothing.
use Rattle.std.proofs.Common.{◌*◌, ◌^◌, ◌≤◌, ◌*ℤ◌, sym, ◌∙◌}
use Rattle.values.proofs.Widths as Widths
use Rattle.values.proofs.Signs as Signs
use Rattle.values.proofs.mul_signed.Goals as goal

pub mul_unsigned-requires : goal.mul_unsigned-requires
mul_unsigned-requires c = Widths.width-le c.requires

pub signed_of-requires : goal.signed_of-requires
signed_of-requires c = (Widths.width-pos c.requires, Widths.width-le c.requires, Widths.below-full (8 * c.args.w) _ c.mul_unsigned.ensures)

pub returns : goal.returns
returns c = let w = c.args.w in
    let h : w ≤ 8 = Widths.width-le c.requires in
    Signs.read64 c.signed_of.result c.signed_of.type_inv ∙ c.signed_of.ensures
    ∙ Widths.wrap-of (8 * w) (c.args.x *ℤ c.args.y) c.mul_unsigned.result (sym
    (Widths.modular (8 * w) (c.args.x *ℤ c.args.y) (c.bits_of.result * c.bits_of-2.result) (Widths.cong-mul (2 ^ (8 * w)) c.args.x c.args.y c.bits_of.result c.bits_of-2.result
    (Signs.bits-cong w h c.args.x c.ranges.x.sfits c.bits_of.ensures)
    (Signs.bits-cong w h c.args.y c.ranges.y.sfits c.bits_of-2.ensures))
    c.mul_unsigned.ensures))
