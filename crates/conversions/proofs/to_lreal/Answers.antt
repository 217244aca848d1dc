-- `conversions::to_lreal` meets its contract: each kind is a clause of the definition. Assumes nothing.
use lib.Ieee.{binary64}
use lib.Ieee as Ieee
use Rattle.conversions.specs.Conversions.{to_lreal}
use Rattle.values.proofs.Floats.{zero_by_zero}
use Rattle.values.proofs.Signs.{read64}
use Rattle.std.proofs.Common.{sym, ap, ◌∙◌}
use Rattle.conversions.proofs.to_lreal.Goals as goal

pub returns-in-Bool : goal.returns-in-Bool
unfolding to_lreal
returns-in-Bool c = zero_by_zero binary64 ∙ sym (ap to_lreal c.in-Bool.is)

pub returns-in-Signed : goal.returns-in-Signed
unfolding to_lreal
returns-in-Signed c = let z = c.in-Signed.z in
    c.nearest_i64_to_f64.ensures ∙ ap (Ieee.of_int binary64) (read64 z c.in-Signed.known_told-1-own.given.0.1) ∙ sym (ap to_lreal c.in-Signed.is)

pub returns-in-Unsigned : goal.returns-in-Unsigned
unfolding to_lreal
returns-in-Unsigned c = c.nearest_u64_to_f64.ensures ∙ sym (ap to_lreal c.in-Unsigned.is)

pub returns-in-Real : goal.returns-in-Real
unfolding to_lreal
returns-in-Real c = c.f32_to_f64_with_nan.ensures ∙ sym (ap to_lreal c.in-Real.is)

pub returns-in-Lreal : goal.returns-in-Lreal
unfolding to_lreal
returns-in-Lreal c = sym (ap to_lreal c.in-Lreal.is)
