-- `Division::apply` divides by no zero: the divisor, of the first source's kind, is not 0. Assumes nothing.
use Rattle.std.proofs.Common.{◌≡◌, ℕ, false, ◌<◌, ◌^◌, eqb, ℤ, pos, sym, ap, ◌∙◌, to_z, of_z, w64, arith}
use borrow.Author.Tests.{eqb-false}
use lib.Signed.{mag}
use Rattle.values.specs.Width.{eq_z}
use Rattle.values.specs.Values.{signed_in, unsigned_in}
use Rattle.values.specs.Commands.{by_zero}
use Rattle.values.specs.declared.Value.{Value}
use Rattle.values.specs.declared.Value.TheVariants.{Signed, Unsigned}
use Rattle.values.proofs.Signs.{read64, not-zero}
use Rattle.arithmetic.proofs.DivisionCommand.apply.Goals as goal

module _ (a b : Value) where
  signed-divisor : (x y : ℤ) → a ≡ Signed x → y ≡ signed_in b → mag y < 2 ^ 63 → by_zero a b ≡ false → (to_z w64 (of_z w64 y) ≡ pos 0 → ⊥)
  unfolding by_zero
  signed-divisor x y p q l z e =
      not-zero y (ap (λ (v : ℤ). eq_z v (pos 0)) q ∙ sym (ap (λ (v : Value). by_zero v b) p) ∙ z) (sym (read64 y l) ∙ e)

  unsigned-divisor : (x y : ℕ) → a ≡ Unsigned x → y ≡ unsigned_in b → by_zero a b ≡ false → 0 < y
  unfolding by_zero
  unsigned-divisor x y p q z =
      let d : (y ≡ 0 → ⊥) = eqb-false y 0 (ap (λ (n : ℕ). eqb n 0) q ∙ sym (ap (λ (v : Value). by_zero v b) p) ∙ z) in
      omega arith

pub div_signed-requires : goal.div_signed-requires
div_signed-requires c = search signed-divisor

pub nonzero_div-result : goal.nonzero_div-result
nonzero_div-result c = search unsigned-divisor
