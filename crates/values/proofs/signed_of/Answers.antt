-- `values::signed_of` meets its contract. Below eight bytes half of the range is added and taken off again (`back`). At eight, patterns below half
-- stand for themselves, the others for a number below zero. Assumes nothing.
use mir.Facts.{to_z_pos}
use Rattle.values.proofs.Signs.{read64, half-small, low_small, back_fits, back_read}
use Rattle.std.proofs.Common.{◌-◌, ◌*◌, negsuc, sym, ap, ◌∙◌, arith, pow_pos, w64}
use Rattle.values.proofs.Widths as Widths
use Rattle.values.proofs.signed_of.Goals as goal

pub overflow_add-p : goal.overflow_add-p
overflow_add-p c = record { fits = omega (arith, half-small c.args.w (omega arith) c.half_of-half.ensures, Widths.two-halves c.args.w c.requires.0) }

pub overflow_cast-result : goal.overflow_cast-result
overflow_cast-result c = record { sfits = omega (arith, low_small _ _ _ _ c.requires.0 (omega arith) c.requires.2 c.half_of-half.ensures c.low_bytes.ensures) }

pub overflow_cast-result-then-w-lt8 : goal.overflow_cast-result-then-w-lt8
overflow_cast-result-then-w-lt8 c = record { sfits = omega (arith, half-small c.args.w (omega arith) c.half_of-half.ensures) }

pub overflow_sub-result : goal.overflow_sub-result
overflow_sub-result c = record { sfits = back_fits _ _ _ _ c.requires.0 (omega arith) c.requires.2 c.half_of-half.ensures c.low_bytes.ensures }

pub returns-then-w-lt8 : goal.returns-then-w-lt8
returns-then-w-lt8 c = back_read _ _ _ _ c.requires.0 (omega arith) c.requires.2 c.half_of-half.ensures c.low_bytes.ensures

pub overflow_cast-result-then-p-half : goal.overflow_cast-result-then-p-half
overflow_cast-result-then-p-half c = record { sfits = omega (arith, c.half_of-half.ensures, Widths.half_le c.args.w c.requires.1) }

pub overflow_sub-half : goal.overflow_sub-half
overflow_sub-half c = omega (arith, c.half_of-half.ensures, pow_pos (8 * c.args.w - 1))

pub overflow_sub-half-else-p-half : goal.overflow_sub-half-else-p-half
overflow_sub-half-else-p-half c = omega (arith, c.half_of-half.ensures, Widths.two-halves c.args.w c.requires.0)

pub below_zero-requires : goal.below_zero-requires
below_zero-requires c = omega (arith, c.half_of-half.ensures, Widths.half_le c.args.w c.requires.1, pow_pos (8 * c.args.w - 1))

pub returns-then-p-half : goal.returns-then-p-half
returns-then-p-half c = to_z_pos w64 (omega (arith, c.half_of-half.ensures, Widths.half_le c.args.w c.requires.1))
    ∙ sym (Widths.signed_low (8 * c.args.w) c.args.p (omega (arith, c.half_of-half.ensures)))

pub returns-else-p-half : goal.returns-else-p-half
returns-else-p-half c = read64 c.below_zero.result c.below_zero.type_inv
    ∙ c.below_zero.ensures
    ∙ ap negsuc (omega (arith, c.half_of-half.ensures, Widths.two-halves c.args.w c.requires.0))
    ∙ sym (Widths.signed_high (8 * c.args.w) c.args.p (omega (arith, c.half_of-half.ensures)))
