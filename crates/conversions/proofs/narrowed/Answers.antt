-- `conversions::narrowed` meets its contract: NaN and infinities go as they are; a finite pattern is its digits times a power of two. Assumes nothing.
use lib.Ieee.Bits.{of_bits-to_bits}
use lib.Ieee.{binary32, binary64}
use lib.Ieee as Ieee
use denote.Floats.{passes}
use Rattle.conversions.specs.Conversions.{narrow}
use Rattle.conversions.specs.Digits.{digits_in}
use Rattle.std.proofs.Common.{ℕ, ◌*◌, ◌^◌, leb, sym, ap, ◌∙◌, arith}
use Rattle.values.proofs.Floats.{differs, not-differs, zero_by_zero}
use Rattle.conversions.proofs.Whole as Whole
use Rattle.conversions.proofs.narrowed.Goals as goal

pub returns-then-x : goal.returns-then-x
unfolding narrow
returns-then-x c = zero_by_zero binary32 ∙ sym (ap narrow (differs _ c.if-x.true))

pub float_to_bits-p : goal.float_to_bits-p
float_to_bits-p c = not-differs _ c.if-x.false

pub float_from_bits-result : goal.float_from_bits-result
unfolding Ieee.nan_bits
float_from_bits-result c = tt

pub float_from_bits-result-else-p-lt9223372036854775808 : goal.float_from_bits-result-else-p-lt9223372036854775808
unfolding Ieee.nan_bits
float_from_bits-result-else-p-lt9223372036854775808 c = tt

pub round_real-requires : goal.round_real-requires
round_real-requires c = omega (arith, c.shift_of-j.ensures, Whole.shift_le (Ieee.to_bits binary64 c.args.x))

pub returns-then-p-lt9223372036854775808 : goal.returns-then-p-lt9223372036854775808
unfolding Ieee.of_bits
returns-then-p-lt9223372036854775808 c = let x = c.args.x in
    Whole.narrow-up x (of_bits-to_bits binary64 x (passes _ c.well_formed.0.1)) (not-differs _ c.if-x.false) (sym c.shift_of-j.ensures ∙ c.if-j-eq2046.true) c.if-p-lt9223372036854775808.true

pub returns-else-p-lt9223372036854775808 : goal.returns-else-p-lt9223372036854775808
unfolding Ieee.of_bits
returns-else-p-lt9223372036854775808 c = let x = c.args.x in
    Whole.narrow-down x (of_bits-to_bits binary64 x (passes _ c.well_formed.0.1)) (not-differs _ c.if-x.false) (sym c.shift_of-j.ensures ∙ c.if-j-eq2046.true) c.if-p-lt9223372036854775808.false

pub returns-else-j-eq2046 : goal.returns-else-j-eq2046
returns-else-j-eq2046 c = let x = c.args.x in
    let p = Ieee.to_bits binary64 x in
    let ej = c.shift_of-j.ensures in
    c.round_real.ensures
    ∙ ap (λ (d : ℕ). Ieee.round binary32 (leb (2 ^ 63) p) (d * 2 ^ c.shift_of-j.result) (2 ^ 1074)) c.digits_of.ensures
    ∙ ap (λ (j : ℕ). Ieee.round binary32 (leb (2 ^ 63) p) (digits_in binary64 p * 2 ^ j) (2 ^ 1074)) ej
    ∙ Whole.narrow-finite x (of_bits-to_bits binary64 x (passes _ c.well_formed.0.1)) (λ e. c.if-j-eq2046.false (ej ∙ e))
