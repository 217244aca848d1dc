-- `values::real_in` meets its contract. What is no REAL holds NaN. Assumes nothing.
use lib.Ieee.{Float, nan}
use Rattle.std.proofs.Common.{◌≡◌, refl, ◌∙◌}
use Rattle.values.specs.Values.{real_in}
use Rattle.values.specs.declared.Value.{Value}
use Rattle.values.specs.declared.Value.TheVariants.{Bool as VBool, Signed, Unsigned, Real, Lreal}
use Rattle.values.proofs.Floats.{quiet-nan}
use Rattle.values.proofs.real_in.Goals as goal

no-real : (v : Value) → ((x : Float) → v ≡ Real x → ⊥) → nan ≡ real_in v
no-real (VBool x) h = refl
no-real (Signed z) h = refl
no-real (Unsigned k) h = refl
no-real (Real x) h = absurd (h x refl)
no-real (Lreal x) h = refl

pub returns-in_default : goal.returns-in_default
returns-in_default c = quiet-nan.0 ∙ no-real c.args.v c.in_default.not-Real
