-- `values::neg_signed` meets its contract. 0 minus the pattern is the pattern of the negative number. Assumes nothing.
use Rattle.std.proofs.Common.{◌*◌, ◌^◌, ◌≤◌, neg_ℤ, sym, ◌∙◌, arith}
use Rattle.values.proofs.Widths as Widths
use Rattle.values.proofs.Signs as Signs
use Rattle.values.proofs.neg_signed.Goals as goal

pub low_bytes-requires : goal.low_bytes-requires
low_bytes-requires c = Widths.width-le c.requires

pub signed_of-requires : goal.signed_of-requires
signed_of-requires c = (Widths.width-pos c.requires, Widths.width-le c.requires, Widths.below-full (8 * c.args.w) _ c.low_bytes.ensures)

pub returns : goal.returns
returns c = let w = c.args.w in
    let h : w ≤ 8 = Widths.width-le c.requires in
    let p = c.bits_of.result in
    let r = c.wrapping_neg.result in
    let k : Widths.Cong (2 ^ 64) c.args.x p = Signs.bits-cong 8 (omega arith) c.args.x c.ranges.x.sfits c.bits_of.ensures in
    Signs.read64 c.signed_of.result c.signed_of.type_inv ∙ c.signed_of.ensures
    ∙ Widths.wrap-of (8 * w) (neg_ℤ c.args.x) c.low_bytes.result
    (Widths.cong-pattern (8 * w) (neg_ℤ c.args.x) r (Widths.cong-narrow w h (neg_ℤ c.args.x) r (Widths.cong-minus (2 ^ 64) c.args.x p r k c.wrapping_neg.ensures))
    ∙ sym c.low_bytes.ensures)
