-- `conversions::to_whole` meets its contract: each kind is a clause of the definition; a REAL is widened first, which keeps its value. Assumes nothing.
use lib.Signed.{lt_z}
use Rattle.conversions.specs.Conversions.{to_whole, held_in, with_sign, nearest_whole}
use Rattle.std.proofs.Common.{ℕ, ℤ, pos, nat_abs, sym, ap, ◌∙◌, w64, to_z, of_z}
use Rattle.values.proofs.Signs.{read64}
use Rattle.conversions.proofs.Whole as Whole
use Rattle.conversions.proofs.to_whole.Goals as goal

pub returns-in-Bool : goal.returns-in-Bool
unfolding to_whole
returns-in-Bool c = sym (ap (to_whole c.args.signed c.args.w) c.in-Bool.is)

pub returns-in-Signed : goal.returns-in-Signed
unfolding to_whole
returns-in-Signed c = let z = c.in-Signed.z in
    let r = read64 z c.in-Signed.known_told-1-own.given.0.1 in
    c.held_at.ensures
    ∙ ap (λ (n : ℕ). held_in c.args.signed c.args.w (with_sign (lt_z (to_z w64 (of_z w64 z)) (pos 0)) n)) c.unsigned_abs.ensures.value
    ∙ ap (λ (y : ℤ). held_in c.args.signed c.args.w (with_sign (lt_z y (pos 0)) (nat_abs y))) r
    ∙ ap (held_in c.args.signed c.args.w) (Whole.sign-and-size z)
    ∙ sym (ap (to_whole c.args.signed c.args.w) c.in-Signed.is)

pub returns-in-Unsigned : goal.returns-in-Unsigned
unfolding to_whole
returns-in-Unsigned c = c.held_at-in-Unsigned.ensures ∙ sym (ap (to_whole c.args.signed c.args.w) c.in-Unsigned.is)

pub returns-in-Real : goal.returns-in-Real
unfolding to_whole
returns-in-Real c = c.nearest_whole.ensures ∙ ap (nearest_whole c.args.signed c.args.w) c.f32_to_f64_with_nan.ensures ∙ sym (ap (to_whole c.args.signed c.args.w) c.in-Real.is)

pub returns-in-Lreal : goal.returns-in-Lreal
unfolding to_whole
returns-in-Lreal c = c.nearest_whole-in-Lreal.ensures ∙ sym (ap (to_whole c.args.signed c.args.w) c.in-Lreal.is)
