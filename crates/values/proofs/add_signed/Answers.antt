-- `values::add_signed` meets its contract. The sum of the patterns, cut to the width, is the pattern of the sum (`modular`). Assumes nothing.
use Rattle.std.proofs.Common.{◌+◌, ◌*◌, ◌^◌, ◌≤◌, ◌+ℤ◌, sym, ◌∙◌}
use Rattle.values.proofs.Widths as Widths
use Rattle.values.proofs.Signs as Signs
use Rattle.values.proofs.add_signed.Goals as goal

pub add_unsigned-requires : goal.add_unsigned-requires
add_unsigned-requires c = c.requires

pub signed_of-requires : goal.signed_of-requires
signed_of-requires c = (Widths.width-pos c.requires, Widths.width-le c.requires, Widths.below-full (8 * c.args.w) _ c.add_unsigned.ensures)

pub returns : goal.returns
returns c = let w = c.args.w in
    let h : w ≤ 8 = Widths.width-le c.requires in
    Signs.read64 c.signed_of.result c.signed_of.type_inv ∙ c.signed_of.ensures
    ∙ Widths.wrap-of (8 * w) (c.args.x +ℤ c.args.y) c.add_unsigned.result (sym
    (Widths.modular (8 * w) (c.args.x +ℤ c.args.y) (c.bits_of.result + c.bits_of-2.result) (Widths.cong-add (2 ^ (8 * w)) c.args.x c.args.y c.bits_of.result c.bits_of-2.result
    (Signs.bits-cong w h c.args.x c.ranges.x.sfits c.bits_of.ensures)
    (Signs.bits-cong w h c.args.y c.ranges.y.sfits c.bits_of-2.ensures))
    c.add_unsigned.ensures))
