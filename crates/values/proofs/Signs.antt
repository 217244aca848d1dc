-- Signed 64-bit numbers: a number and its bits, by its sign. Assumes nothing.
use Rattle.std.proofs.Common.{◌≡◌, ℕ, zero, suc, ◌+◌, ◌-◌, ◌*◌, ◌/◌, ◌%◌, ◌^◌, ◌<◌, ◌≤◌, Bool, true, false, T, eqb, ltb, ℤ, pos, negsuc, ◌-ℤ◌, neg_ℤ, sym, refl, ap, ◌∙◌, subst, le_trans, lt_of_le_of_lt, mod-eq_of_lt, div-lt_iff_lt-mul, div-le_self, arith, pow_mono, to_z-of_z, w64, SFits, to_z, of_z, ltb-false, ltb-true, le-ltb, lt-ltb, eq-eqb, ne_eqb, eqb-true}
use lib.Signed.{mag, quot_z, rem_z, mag_rem}
use borrow.Author.Tests.{eqb-false}
use native.Mathlib.Nat.{mod-eq-sub-mod, mod-one, le-suc}
use mir.Facts.{to_z_pos}
use Rattle.values.specs.Width.{pattern, signed, eq_z}
use Rattle.values.proofs.Widths.{Cong, cong-64, two-halves, signed_low, signed_high}

pub minus_one : (k : ℕ) → negsuc 0 -ℤ pos k ≡ negsuc k
minus_one zero = refl
minus_one (suc k) = ap negsuc (omega arith)

-- a signed local holds bits: what is read back from them
pub read64 : (z : ℤ) → mag z < 2 ^ 63 → to_z w64 (of_z w64 z) ≡ z
read64 z h = to_z-of_z {w = w64} (record { sfits = h })

-- the bits of a number are its pattern
pub bits-pattern : (z : ℤ) → mag z < 2 ^ 63 → of_z w64 z ≡ pattern 64 z
unfolding pattern
bits-pattern (pos n) h = let l : n < 2 ^ 64 = omega arith in sym (mod-eq_of_lt l)
bits-pattern (negsuc n) h = let l : n < 2 ^ 64 = omega arith in omega (arith, mod-eq_of_lt l)

-- ---- a pattern of fewer than eight bytes: half of the range is added, and taken off again after the sum has wrapped

minus-low : (a b : ℕ) → b ≤ a → pos a -ℤ pos b ≡ pos (a - b)
minus-low a zero h = ap pos (omega arith)
minus-low a (suc b) h = rw (le-ltb a (suc b) h)

minus-high : (a b : ℕ) → a < b → pos a -ℤ pos b ≡ negsuc (b - suc a)
minus-high a zero h = absurd (let z : ⊥ = omega arith in z)
minus-high a (suc b) h = rw (lt-ltb a (suc b) h)

pub half-small : (w : ℕ) {half : ℕ} → w < 8 → half ≡ 2 ^ (8 * w - 1) → half ≤ 2 ^ 55
half-small w h e = let l : 8 * w - 1 ≤ 55 = omega arith in subst (λ (n : ℕ). n ≤ 2 ^ 55) (sym e) (pow_mono l)

module _ (w p half low : ℕ) (g : 0 < w) (h : w < 8) (i : p < 2 ^ (8 * w)) (e : half ≡ 2 ^ (8 * w - 1)) (f : low ≡ (p + half) % 2 ^ (8 * w)) where
  halves : 2 ^ (8 * w) ≡ half + half
  halves = omega (arith, two-halves w g)

  -- by the sign
  by_sign : (b : Bool) → ltb p half ≡ b → (pos low -ℤ pos half ≡ signed (8 * w) p) × (low < half + half)
  by_sign true t =
      let l : p < half = ltb-true p half t in
      let k : p + half < 2 ^ (8 * w) = omega (arith, halves) in
      let s : low ≡ p + half = f ∙ mod-eq_of_lt k in
      (minus-low low half (omega arith) ∙ ap pos (omega arith) ∙ sym (signed_low (8 * w) p (omega arith)), omega arith)
  by_sign false t =
      let l : half ≤ p = ltb-false p half t in
      let m : 2 ^ (8 * w) ≤ p + half = omega (arith, halves) in
      let k : p + half - 2 ^ (8 * w) < 2 ^ (8 * w) = omega (arith, halves) in
      let s : low ≡ p + half - 2 ^ (8 * w) = f ∙ mod-eq-sub-mod m ∙ mod-eq_of_lt k in
      (minus-high low half (omega (arith, halves)) ∙ ap negsuc (omega (arith, halves)) ∙ sym (signed_high (8 * w) p (omega arith)), omega (arith, halves))

  pub low_small : low < 2 ^ 56
  low_small = omega (arith, half-small w h e, (by_sign (ltb p half) refl).1)

  pub back : to_z w64 low -ℤ to_z w64 half ≡ signed (8 * w) p
  back =
      let l : low < 2 ^ 63 = omega (arith, low_small) in
      let k : half < 2 ^ 63 = omega (arith, half-small w h e) in
      ap (λ (z : ℤ). z -ℤ to_z w64 half) (to_z_pos w64 l)
      ∙ ap (λ (z : ℤ). pos low -ℤ z) (to_z_pos w64 k)
      ∙ (by_sign (ltb p half) refl).0

  signed-fits : (b : Bool) → ltb p half ≡ b → mag (signed (8 * w) p) < 2 ^ 63
  signed-fits true t =
      let l : p < half = ltb-true p half t in
      subst (λ (z : ℤ). mag z < 2 ^ 63) (sym (signed_low (8 * w) p (omega arith))) (omega (arith, half-small w h e))
  signed-fits false t =
      let l : half ≤ p = ltb-false p half t in
      subst (λ (z : ℤ). mag z < 2 ^ 63) (sym (signed_high (8 * w) p (omega arith))) (omega (arith, half-small w h e, halves))

  pub back_fits : mag (to_z w64 low -ℤ to_z w64 half) < 2 ^ 63
  back_fits = subst (λ (z : ℤ). mag z < 2 ^ 63) (sym back) (signed-fits (ltb p half) refl)

  pub back_read : to_z w64 (of_z w64 (to_z w64 low -ℤ to_z w64 half)) ≡ signed (8 * w) p
  back_read = read64 (to_z w64 low -ℤ to_z w64 half) back_fits ∙ back

-- the bits of a signed local are its number modulo any width
pub bits-cong : (w : ℕ) → w ≤ 8 → (z : ℤ) → mag z < 2 ^ 63 → {r : ℕ} → r ≡ pattern 64 (to_z w64 (of_z w64 z)) → Cong (2 ^ (8 * w)) z r
bits-cong w h z l {r} e = subst (λ (k : ℕ). Cong (2 ^ (8 * w)) z k) (sym (e ∙ ap (pattern 64) (read64 z l))) (cong-64 w h z)

pub read-both : (f : ℤ → ℤ → ℤ) (x y : ℤ) → mag x < 2 ^ 63 → mag y < 2 ^ 63 → f (to_z w64 (of_z w64 x)) (to_z w64 (of_z w64 y)) ≡ f x y
read-both f x y hx hy = ap (λ (z : ℤ). f z (to_z w64 (of_z w64 y))) (read64 x hx) ∙ ap (f x) (read64 y hy)

-- ---- division
pub bits_pos : (y : ℤ) → mag y < 2 ^ 63 → (y ≡ pos 0 → ⊥) → 0 < of_z w64 y
bits_pos (pos zero) h d = absurd (d refl)
bits_pos (pos (suc n)) h d = omega arith
bits_pos (negsuc n) h d = omega arith

mag-neg : (k b : ℕ) → k ≤ suc b → b < 2 ^ 63 → mag (neg_ℤ (pos k)) < 2 ^ 63
mag-neg zero b h l = omega arith
mag-neg (suc k) b h l = omega arith

-- a quotient fits, but for the lowest by -1
pub quot_fits : (x y : ℤ) → mag x < 2 ^ 63 → mag y < 2 ^ 63 → (of_z w64 y ≡ 2 ^ 64 - 1 → ⊥) → mag (quot_z x y) < 2 ^ 63
quot_fits (pos a) (pos b) hx hy d = lt_of_le_of_lt (div-le_self a b) hx
quot_fits (pos a) (negsuc b) hx hy d = mag-neg (a / suc b) a (le_trans (div-le_self a (suc b)) (le-suc a)) hx
quot_fits (negsuc a) (pos b) hx hy d = mag-neg (suc a / b) a (div-le_self (suc a) b) hx
quot_fits (negsuc a) (negsuc zero) hx hy d = absurd (d refl)
quot_fits (negsuc a) (negsuc (suc b)) hx hy d =
    let l : suc a < 2 ^ 63 * suc (suc b) = omega arith in
    let k : 0 < suc (suc b) = omega arith in
    (div-lt_iff_lt-mul k).1 l

-- what the machine asks of a quotient, and of a remainder too
pub quotient-asks : (x y : ℤ) → mag x < 2 ^ 63 → mag y < 2 ^ 63 → (y ≡ pos 0 → ⊥) → (of_z w64 y ≡ 2 ^ 64 - 1 → ⊥)
    → (0 < of_z w64 y) × SFits w64 (quot_z (to_z w64 (of_z w64 x)) (to_z w64 (of_z w64 y)))
quotient-asks x y hx hy d e =
    (bits_pos y hy d, record { sfits = subst (λ (z : ℤ). mag z < 2 ^ 63) (sym (read-both quot_z x y hx hy)) (quot_fits x y hx hy e) })

-- a divisor of -1, by its bits
pub minus-one-bits : (y : ℤ) → mag y < 2 ^ 63 → of_z w64 y ≡ 2 ^ 64 - 1 → y ≡ negsuc 0
minus-one-bits y h e = sym (read64 y h) ∙ ap (to_z w64) e

pub rem-minus-one : (x : ℤ) → rem_z x (negsuc 0) ≡ pos 0
rem-minus-one (pos n) = ap pos (mod-one n)
rem-minus-one (negsuc n) = ap (λ (k : ℕ). neg_ℤ (pos k)) (mod-one (suc n))

pub rem_read : (x y : ℤ) → mag x < 2 ^ 63 → mag y < 2 ^ 63 → to_z w64 (of_z w64 (rem_z (to_z w64 (of_z w64 x)) (to_z w64 (of_z w64 y)))) ≡ rem_z x y
rem_read x y hx hy =
    ap (λ (z : ℤ). to_z w64 (of_z w64 z)) (read-both rem_z x y hx hy) ∙ read64 (rem_z x y) (lt_of_le_of_lt (mag_rem x y) hx)

-- ---- equality
eqb-iff : (a b c d : ℕ) (t : Bool) → eqb c d ≡ t → (a ≡ b → c ≡ d) → (c ≡ d → a ≡ b) → eqb a b ≡ t
eqb-iff a b c d true e f g = eq-eqb a b (g (eqb-true c d e))
eqb-iff a b c d false e f g = ne_eqb a b (λ q. eqb-false c d e (f q))

pub eq-bits : (x y : ℤ) → mag x < 2 ^ 63 → mag y < 2 ^ 63 → eqb (of_z w64 x) (of_z w64 y) ≡ eq_z x y
eq-bits (pos a) (pos b) hx hy = refl
eq-bits (pos a) (negsuc b) hx hy = ne_eqb a (2 ^ 64 - suc b) (λ q. omega arith)
eq-bits (negsuc a) (pos b) hx hy = ne_eqb (2 ^ 64 - suc a) b (λ q. omega arith)
eq-bits (negsuc a) (negsuc b) hx hy = eqb-iff (2 ^ 64 - suc a) (2 ^ 64 - suc b) a b (eqb a b) refl (λ q. omega arith) (λ q. ap (λ (n : ℕ). 2 ^ 64 - suc n) q)

-- a divisor of 0, by its bits
pub zero_bits : (y : ℤ) → mag y < 2 ^ 63 → of_z w64 y ≡ 0 → eq_z y (pos 0) ≡ true
zero_bits y h e = sym (eq-bits y (pos 0) h (omega arith)) ∙ eq-eqb (of_z w64 y) 0 e

pub other-bits : (y : ℤ) → mag y < 2 ^ 63 → (of_z w64 y ≡ 0 → ⊥) → eq_z y (pos 0) ≡ false
other-bits y h e = sym (eq-bits y (pos 0) h (omega arith)) ∙ ne_eqb (of_z w64 y) 0 e

pub not-zero : (z : ℤ) → eq_z z (pos 0) ≡ false → z ≡ pos 0 → ⊥
not-zero z e q = subst T (sym (ap (λ (x : ℤ). eq_z x (pos 0)) q) ∙ e) tt
