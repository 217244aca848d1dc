-- `conversions::to_real` meets its contract: each kind is a clause of the definition; a whole number is a fraction with the divisor 1. Assumes nothing.
use lib.Ieee.{binary32}
use lib.Ieee as Ieee
use lib.Signed.{lt_z}
use Rattle.conversions.specs.Conversions.{to_real}
use Rattle.std.proofs.Common.{ℕ, ◌*◌, ◌^◌, false, ℤ, pos, nat_abs, sym, ap, ◌∙◌, w64, to_z, of_z}
use Rattle.values.proofs.Floats.{zero_by_zero}
use Rattle.values.proofs.Signs.{read64}
use Rattle.conversions.proofs.Whole as Whole
use Rattle.conversions.proofs.to_real.Goals as goal

pub returns-in-Bool : goal.returns-in-Bool
unfolding to_real
returns-in-Bool c = zero_by_zero binary32 ∙ sym (ap to_real c.in-Bool.is)

pub returns-in-Signed : goal.returns-in-Signed
unfolding to_real
returns-in-Signed c = let z = c.in-Signed.z in
    let r = read64 z c.in-Signed.known_told-1-own.given.0.1 in
    c.whole_real.ensures
    ∙ ap (λ (n : ℕ). Ieee.round binary32 (lt_z (to_z w64 (of_z w64 z)) (pos 0)) (n * 2 ^ 1074) (2 ^ 1074)) c.unsigned_abs.ensures.value
    ∙ ap (λ (y : ℤ). Ieee.round binary32 (lt_z y (pos 0)) (nat_abs y * 2 ^ 1074) (2 ^ 1074)) r
    ∙ Whole.whole_scaled (lt_z z (pos 0)) (nat_abs z)
    ∙ Whole.of_int_is binary32 z
    ∙ sym (ap to_real c.in-Signed.is)

pub returns-in-Unsigned : goal.returns-in-Unsigned
unfolding to_real Ieee.of_int
returns-in-Unsigned c = c.whole_real-in-Unsigned.ensures ∙ Whole.whole_scaled false c.in-Unsigned.n ∙ sym (ap to_real c.in-Unsigned.is)

pub returns-in-Real : goal.returns-in-Real
unfolding to_real
returns-in-Real c = sym (ap to_real c.in-Real.is)

pub returns-in-Lreal : goal.returns-in-Lreal
unfolding to_real
returns-in-Lreal c = c.narrowed.ensures ∙ sym (ap to_real c.in-Lreal.is)
