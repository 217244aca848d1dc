-- Whole to whole keeps the value, float to whole stores the nearest, for every pair of types; a pattern converted to its own type stays.
-- In order: patterns of signed numbers; one width; every type. Assumes nothing.
use Rattle.std.proofs.Common.{◌≡◌, ℕ, suc, ◌-◌, ◌*◌, ◌%◌, ◌^◌, ◌<◌, ◌≤◌, Bool, true, false, T, ltb, ◌⊎◌, ℤ, pos, negsuc, sym, refl, ap, ◌∙◌, subst, ⊎_elim, mod-eq_of_lt, arith, ltb→lt, pow_pos, lt-ltb}
use lib.Ieee.{fin, up, down}
use lib.Ieee.Nearest.{closest}
use lib.Signed.{mag}
use Rattle.verdict.specs.Verdict.{pick}
use Rattle.verdict.proofs.Verdict.{absurd-bool, inside-true}
use Rattle.values.specs.Types.{width_of}
use Rattle.values.specs.Width.{pattern, signed}
use Rattle.values.specs.Values.{typed, stored, pattern_of}
use Rattle.values.specs.declared.Value.{Value}
use Rattle.values.specs.declared.Value.TheVariants.{Signed, Unsigned, Real, Lreal}
use Rattle.values.proofs.Types.{each-type}
use Rattle.values.proofs.Widths.{two-halves, signed_low, signed_high}
use Rattle.std.specs.Prelude.{Some, None}
use Rattle.conversions.specs.Conversions.{stores, held_in, with_sign, nearest_whole, to_whole, to_type, converted, result_as}
use Rattle.conversions.specs.Kept.{Whole, number_at}
use Rattle.conversions.specs.Rounding.{Nearest}
use Rattle.conversions.proofs.Rounding.{le-or-lt}
use Rattle.conversions.proofs.Ieee.{whole-nearest}
use Rattle.conversions.proofs.Types.{pattern_in, is_stored}

-- ---- patterns of signed numbers, in b bits

module _ (b half : ℕ) (e : half ≡ 2 ^ (b - 1)) (d : 2 ^ b ≡ half * 2) (H : 0 < half) where
  pub read_back : (z : ℤ) → mag z < half → signed b (pattern b z) ≡ z
  unfolding pattern
  read_back (pos n) h =
      let l : n < 2 ^ b = omega (arith, d, h) in
      ap (signed b) (mod-eq_of_lt l) ∙ signed_low b n (subst (λ (x : ℕ). n < x) e h)
  read_back (negsuc n) h =
      let l : n < 2 ^ b = omega (arith, d, h) in
      let g : half ≤ 2 ^ b - suc n = omega (arith, d, h) in
      let f : 2 ^ b - suc (2 ^ b - suc n) ≡ n = omega (arith, d, h) in
      ap (λ (x : ℕ). signed b (2 ^ b - suc x)) (mod-eq_of_lt l) ∙ signed_high b (2 ^ b - suc n) (subst (λ (x : ℕ). x ≤ 2 ^ b - suc n) e g) ∙ ap negsuc f

  signed-small : (p : ℕ) → p < 2 ^ b → mag (signed b p) < half
  signed-small p l =
      ⊎_elim
      (λ (h : half ≤ p). subst (λ (z : ℤ). mag z < half) (sym (signed_high b p (subst (λ (x : ℕ). x ≤ p) e h))) (high p l h))
      (λ (h : p < half). subst (λ (z : ℤ). mag z < half) (sym (signed_low b p (subst (λ (x : ℕ). p < x) e h))) h)
      (le-or-lt half p)
    where
      high : (p : ℕ) → p < 2 ^ b → half ≤ p → 2 ^ b - suc p < half
      high p l h = omega (arith, d)

  pattern-back : (p : ℕ) → p < 2 ^ b → pattern b (signed b p) ≡ p
  unfolding pattern
  pattern-back p l =
      ⊎_elim
      (λ (h : half ≤ p).
      ap (pattern b) (signed_high b p (subst (λ (x : ℕ). x ≤ p) e h)) ∙ ap (λ (x : ℕ). 2 ^ b - suc x) (mod-eq_of_lt (less p l)) ∙ again p l)
      (λ (h : p < half). ap (pattern b) (signed_low b p (subst (λ (x : ℕ). p < x) e h)) ∙ mod-eq_of_lt l)
      (le-or-lt half p)
    where
      less : (p : ℕ) → p < 2 ^ b → 2 ^ b - suc p < 2 ^ b
      less p l = omega arith

      again : (p : ℕ) → p < 2 ^ b → 2 ^ b - suc (2 ^ b - suc p) ≡ p
      again p l = omega arith

-- ---- one width

one : 0 < 1
one = omega arith

two : 0 < 2
two = omega arith

four : 0 < 4
four = omega arith

eight : 0 < 8
eight = omega arith

module _ (t w : ℕ) (wide : width_of t ≡ w) (W : 0 < w) where
  signed-kept : (z : ℤ) (q : ℕ) → result_as t (held_in true w z) ≡ stores q → signed (8 * w) q ≡ z
  unfolding held_in stored pattern_of pick
  signed-kept z q = go (ltb (mag z) (2 ^ (8 * w - 1))) (ltb→lt (mag z) (2 ^ (8 * w - 1)))
    where
      go : (c : Bool) → (T c → mag z < 2 ^ (8 * w - 1)) → result_as t (pick c (Some (Signed z)) None) ≡ stores q → signed (8 * w) q ≡ z
      go true h e =
          ap (signed (8 * w)) (sym (ap pattern_in e) ∙ ap (λ (x : ℕ). pattern (8 * x) z) wide)
          ∙ read_back (8 * w) (2 ^ (8 * w - 1)) refl (two-halves w W) (pow_pos (8 * w - 1)) z (h tt)
      go false h e = absurd-bool (ap is_stored e)

  unsigned-kept : (z : ℤ) (q : ℕ) → result_as t (held_in false w z) ≡ stores q → pos q ≡ z
  unfolding held_in stored pattern_of pick
  unsigned-kept (pos n) q = go (ltb n (2 ^ (8 * w))) (ltb→lt n (2 ^ (8 * w)))
    where
      go : (c : Bool) → (T c → n < 2 ^ (8 * w)) → result_as t (pick c (Some (Unsigned n)) None) ≡ stores q → pos q ≡ pos n
      go true h e = ap pos (sym (ap pattern_in e) ∙ ap (λ (x : ℕ). n % 2 ^ (8 * x)) wide ∙ mod-eq_of_lt (h tt))
      go false h e = absurd-bool (ap is_stored e)
  unsigned-kept (negsuc n) q = λ e. absurd-bool (ap is_stored e)

  signed_same : (p : ℕ) → p < 2 ^ (8 * w) → result_as t (held_in true w (signed (8 * w) p)) ≡ stores p
  unfolding held_in stored pattern_of pick
  signed_same p l =
      let half = 2 ^ (8 * w - 1) in
      rw (lt-ltb (mag (signed (8 * w) p)) half (signed-small (8 * w) half refl (two-halves w W) (pow_pos (8 * w - 1)) p l))
      (ap stores (ap (λ (x : ℕ). pattern (8 * x) (signed (8 * w) p)) wide ∙ pattern-back (8 * w) half refl (two-halves w W) (pow_pos (8 * w - 1)) p l))

  unsigned-same : (p : ℕ) → p < 2 ^ (8 * w) → result_as t (held_in false w (pos p)) ≡ stores p
  unfolding held_in stored pattern_of pick
  unsigned-same p l = rw (lt-ltb p (2 ^ (8 * w)) l) (ap stores (ap (λ (x : ℕ). p % 2 ^ (8 * x)) wide ∙ mod-eq_of_lt l))

-- ---- every type

pub each-whole : (P : ℕ → Type 0) → P 1 → P 2 → P 3 → P 4 → P 5 → P 6 → P 7 → P 8 → (t : ℕ) → Whole t → P t
each-whole P a b c d e f g h t m =
    each-type (λ (t : ℕ). Whole t → P t) absurd-bool (λ _. a) (λ _. b) (λ _. c) (λ _. d) (λ _. e) (λ _. f) (λ _. g) (λ _. h) absurd-bool absurd-bool absurd-bool t
    (below t (inside-true 1 8 t m).1) m
  where
    below : (t : ℕ) → t ≤ 8 → t < 12
    below t l = omega arith

-- a whole operand converts by its number
by_number : (b : Bool) (w p : ℕ) (from : ℕ) → Whole from → to_whole b w (typed from p) ≡ held_in b w (number_at from p)
unfolding to_whole typed number_at
by_number b w p = each-whole (λ (t : ℕ). to_whole b w (typed t p) ≡ held_in b w (number_at t p)) refl refl refl refl refl refl refl refl

real-is : (b : Bool) (w : ℕ) (s : Bool) (m : ℕ) (e : ℤ) → to_whole b w (Real (fin s m e)) ≡ held_in b w (with_sign s (closest (m * up e) (down e)))
unfolding to_whole nearest_whole
real-is b w s m e = refl

lreal-is : (b : Bool) (w : ℕ) (s : Bool) (m : ℕ) (e : ℤ) → to_whole b w (Lreal (fin s m e)) ≡ held_in b w (with_sign s (closest (m * up e) (down e)))
unfolding to_whole nearest_whole
lreal-is b w s m e = refl

-- what is stored for a whole type stands for the number that was to be held
stored-number : (v : Value) (z : ℤ) → ((b : Bool) (w : ℕ) → to_whole b w v ≡ held_in b w z) → (q to : ℕ) → Whole to → result_as to (to_type to v) ≡ stores q → number_at to q ≡ z
unfolding to_type typed number_at width_of
stored-number v z h q =
    each-whole (λ (t : ℕ). result_as t (to_type t v) ≡ stores q → number_at t q ≡ z)
    (λ e. signed-kept 1 1 refl one z q (turned true 1 1 e)) (λ e. unsigned-kept 2 1 refl one z q (turned false 1 2 e))
    (λ e. signed-kept 3 2 refl two z q (turned true 2 3 e)) (λ e. unsigned-kept 4 2 refl two z q (turned false 2 4 e))
    (λ e. signed-kept 5 4 refl four z q (turned true 4 5 e)) (λ e. unsigned-kept 6 4 refl four z q (turned false 4 6 e))
    (λ e. signed-kept 7 8 refl eight z q (turned true 8 7 e)) (λ e. unsigned-kept 8 8 refl eight z q (turned false 8 8 e))
  where
    turned : (b : Bool) (w t : ℕ) → result_as t (to_whole b w v) ≡ stores q → result_as t (held_in b w z) ≡ stores q
    turned b w t e = sym (ap (result_as t) (h b w)) ∙ e

-- whole to whole keeps the value
pub kept : (from to p q : ℕ) → Whole from → Whole to → converted from to p ≡ stores q → number_at to q ≡ number_at from p
unfolding converted
kept from to p q F = stored-number (typed from p) (number_at from p) (λ b w. by_number b w p from F) q to

-- float to whole stores the nearest whole number, ties to even (`Nearest`), with the sign
pub nearest-stored : (from to p q : ℕ) (s : Bool) (m : ℕ) (e : ℤ) → (typed from p ≡ Real (fin s m e)) ⊎ (typed from p ≡ Lreal (fin s m e)) → Whole to
    → converted from to p ≡ stores q → (r : ℕ) × (number_at to q ≡ with_sign s r) × Nearest (m * up e) (down e) r
unfolding converted
nearest-stored from to p q s m e v W h =
    (closest (m * up e) (down e), stored-number (typed from p) (with_sign s (closest (m * up e) (down e))) by_value q to W h, whole-nearest m e)
  where
    by_value : (b : Bool) (w : ℕ) → to_whole b w (typed from p) ≡ held_in b w (with_sign s (closest (m * up e) (down e)))
    by_value b w = ⊎_elim (λ x. ap (to_whole b w) x ∙ real-is b w s m e) (λ x. ap (to_whole b w) x ∙ lreal-is b w s m e) v

-- a pattern of a whole type, converted to that type, stays
pub same_whole : (t p : ℕ) → Whole t → p < 2 ^ (8 * width_of t) → converted t t p ≡ stores p
unfolding converted to_type to_whole typed width_of
same_whole t p =
    each-whole (λ (t : ℕ). p < 2 ^ (8 * width_of t) → converted t t p ≡ stores p) (signed_same 1 1 refl one p) (unsigned-same 2 1 refl one p) (signed_same 3 2 refl two p) (unsigned-same 4 2 refl two p)
    (signed_same 5 4 refl four p) (unsigned-same 6 4 refl four p) (signed_same 7 8 refl eight p) (unsigned-same 8 8 refl eight p) t
