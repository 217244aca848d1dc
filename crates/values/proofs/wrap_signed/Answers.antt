-- `values::wrap_signed` meets its contract. The low bytes of the 64-bit pattern are the pattern at the width. Assumes nothing.
use Rattle.std.proofs.Common.{◌*◌, sym, ◌∙◌}
use Rattle.values.proofs.Widths as Widths
use Rattle.values.proofs.Signs as Signs
use Rattle.values.proofs.wrap_signed.Goals as goal

pub signed_of-requires : goal.signed_of-requires
signed_of-requires c = (c.requires.0, c.requires.1, Widths.below-full (8 * c.args.w) _ c.low_bytes.ensures)

pub returns : goal.returns
returns c = Signs.read64 c.signed_of.result c.signed_of.type_inv ∙ c.signed_of.ensures
    ∙ Widths.wrap-of (8 * c.args.w) c.args.z c.low_bytes.result
    (Widths.cong-pattern (8 * c.args.w) c.args.z c.bits_of.result (Signs.bits-cong c.args.w c.requires.1 c.args.z c.ranges.z.sfits c.bits_of.ensures)
    ∙ sym c.low_bytes.ensures)
