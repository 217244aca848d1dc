-- `mod-by-zero`: what document 02, 2.1 says of zero divisors, type by type. Assumes nothing.
use Rattle.std.proofs.Common.{◌≡◌, ℕ, ◌<◌, ◌≤◌, Bool, true, refl, ap, arith}
use Rattle.verdict.specs.Verdict.{pick, both}
use Rattle.verdict.specs.Items.{From}
use Rattle.verdict.proofs.Verdict.{inside}
use Rattle.values.specs.Types.{width_of}
use Rattle.values.specs.Width.{pattern, signed, signed_remainder, unsigned_remainder}
use Rattle.values.specs.Values.{typed, stored, pattern_of}
use Rattle.values.specs.Commands.{on_kinds, MOD, result, result_type, command, zero_divisor}
use Rattle.values.specs.Zero.{ModByZero}
use Rattle.values.proofs.Types.{each-type}

module _ (p : ℕ) where
  not-whole : {A : Type 0} (t : ℕ) → (1 ≤ t → t ≤ 8 → ⊥) → From 1 8 t → A
  not-whole t n h = absurd (n h.0 h.1)

  nothing_left : (t : ℕ) → t < 12 → From 1 8 t → command 20 t p 0 ≡ 0
  unfolding command result result_type stored pattern_of typed width_of MOD on_kinds signed_remainder unsigned_remainder signed pattern pick
  nothing_left =
      each-type (λ (t : ℕ). From 1 8 t → command 20 t p 0 ≡ 0) (not-whole 0 (λ a b. let z : ⊥ = omega arith in z))
      (λ h. refl) (λ h. refl) (λ h. refl) (λ h. refl) (λ h. refl) (λ h. refl) (λ h. refl) (λ h. refl)
      (not-whole 9 (λ a b. let z : ⊥ = omega arith in z)) (not-whole 10 (λ a b. let z : ⊥ = omega arith in z))
      (not-whole 11 (λ a b. let z : ⊥ = omega arith in z))

pub mod-by-zero : ModByZero
unfolding zero_divisor
mod-by-zero =
    record {
      gives-0 = λ t p h. nothing_left p t (omega arith) h;
      no_flag = λ t q. refl;
      div-faults = λ t h. ap (λ (c : Bool). both c true) (inside 1 8 t h.0 h.1);
    }
