-- `values::lreal_in` meets its contract. What is no LREAL holds NaN. Assumes nothing.
use lib.Ieee.{Float, nan}
use Rattle.std.proofs.Common.{◌≡◌, refl, ◌∙◌}
use Rattle.values.specs.Values.{lreal_in}
use Rattle.values.specs.declared.Value.{Value}
use Rattle.values.specs.declared.Value.TheVariants.{Bool as VBool, Signed, Unsigned, Real, Lreal}
use Rattle.values.proofs.Floats.{quiet-nan}
use Rattle.values.proofs.lreal_in.Goals as goal

no-lreal : (v : Value) → ((x : Float) → v ≡ Lreal x → ⊥) → nan ≡ lreal_in v
no-lreal (VBool x) h = refl
no-lreal (Signed z) h = refl
no-lreal (Unsigned k) h = refl
no-lreal (Real x) h = refl
no-lreal (Lreal x) h = absurd (h x refl)

pub returns-in_default : goal.returns-in_default
returns-in_default c = quiet-nan.1 ∙ no-lreal c.args.v c.in_default.not-Lreal
