-- Bits of a pattern at a width: what complement, shifts and rotations come to on 64-bit words, once for every width.
-- In order: complement; shifts; rotations. Assumes nothing.
use Rattle.std.proofs.Common.{◌≡◌, ℕ, ◌+◌, ◌-◌, ◌*◌, ◌/◌, ◌%◌, ◌^◌, ◌<◌, ◌≤◌, leb, negsuc, sym, ap, ◌∙◌, subst, lt_of_lt_of_le, mod-lt, mod-eq_of_lt, zero-mul, div-one, arith, pow_pos, pow_mono, pow-add, shl_exact, le-leb}
use native.Mathlib.Nat.{mod-one, sub-zero, sub_self, pow-zero}
use lib.Arith.{digits_lt}
use borrow.Author.Tests.{lt-leb}
use Rattle.verdict.proofs.Verdict.{pick_true, pick-false}
use Rattle.values.specs.Width.{pattern, flipped, shift_left, shift_right, turned, rotate_left, rotate_right}
use Rattle.values.proofs.Widths.{pattern-64, mod-64, shifted}

-- ---- complement

pub flip-at : (w x : ℕ) → w ≤ 8 → x < 2 ^ 64 → (2 ^ 64 - 1 - x) % 2 ^ (8 * w) ≡ flipped (8 * w) x
unfolding pattern flipped
flip-at w x h l =
    let e : 2 ^ 64 - 1 - x ≡ pattern 64 (negsuc x) = omega (arith, mod-eq_of_lt l) in
    ap (λ (k : ℕ). k % 2 ^ (8 * w)) e ∙ sym (pattern-64 w h (negsuc x))

-- ---- shifts

pub left_out : (b x n : ℕ) → b ≤ n → 0 ≡ shift_left b x n
unfolding shift_left
left_out b x n h = sym (pick_true (leb b n) 0 (x * 2 ^ n % 2 ^ b) (le-leb b n h))

pub left_in : (w x n : ℕ) → w ≤ 8 → n < 8 * w → x * 2 ^ n % 2 ^ 64 % 2 ^ (8 * w) ≡ shift_left (8 * w) x n
unfolding shift_left
left_in w x n h l = mod-64 w h (x * 2 ^ n) ∙ sym (pick-false (leb (8 * w) n) 0 (x * 2 ^ n % 2 ^ (8 * w)) (lt-leb (8 * w) n l))

pub right-out : (b x n : ℕ) → b ≤ n → 0 ≡ shift_right b x n
unfolding shift_right
right-out b x n h = sym (pick_true (leb b n) 0 (x / 2 ^ n) (le-leb b n h))

pub right-in : (b x n : ℕ) → n < b → x / 2 ^ n ≡ shift_right b x n
unfolding shift_right
right-in b x n l = sym (pick-false (leb b n) 0 (x / 2 ^ n) (lt-leb b n l))

-- ---- rotations

pub one_shifted : (k : ℕ) → k < 64 → 0 < (1 * 2 ^ k) % 2 ^ 64
one_shifted k h = subst (λ (x : ℕ). 0 < x) (sym (shifted k h)) (pow_pos k)

pub turned_lt : (b x k : ℕ) → k ≤ b → turned b x k < 2 ^ b
unfolding turned
turned_lt b x k h =
    let e : b - k + k ≡ b = omega arith in
    subst (λ (m : ℕ). turned b x k < m) (sym (pow-add 2 (b - k) k) ∙ ap (λ (j : ℕ). 2 ^ j) e)
    (digits_lt (mod-lt x (pow_pos (b - k))) (mod-lt (x / 2 ^ (b - k)) (pow_pos k)))

module _ (b x k : ℕ) (h : b ≤ 64) (p : 0 < k) (q : k < b) where
  -- what the shifts of 64-bit words give
  pub turn_is : x % ((1 * 2 ^ (b - k)) % 2 ^ 64) * 2 ^ k % 2 ^ 64 + x / 2 ^ (b - k) % ((1 * 2 ^ k) % 2 ^ 64) ≡ turned b x k
  unfolding turned
  turn_is =
      let l : x % 2 ^ (b - k) < 2 ^ (b - k) = mod-lt x (pow_pos (b - k)) in
      ap (λ (m : ℕ). x % m * 2 ^ k % 2 ^ 64 + x / 2 ^ (b - k) % ((1 * 2 ^ k) % 2 ^ 64)) (shifted (b - k) (omega arith))
      ∙ ap (λ (m : ℕ). x % 2 ^ (b - k) * 2 ^ k % 2 ^ 64 + x / 2 ^ (b - k) % m) (shifted k (omega arith))
      ∙ ap (λ (m : ℕ). m + x / 2 ^ (b - k) % 2 ^ k) (shl_exact (b - k) k 64 l (omega arith))

  pub turn-fits : x % ((1 * 2 ^ (b - k)) % 2 ^ 64) * 2 ^ k % 2 ^ 64 + x / 2 ^ (b - k) % ((1 * 2 ^ k) % 2 ^ 64) < 2 ^ 64
  turn-fits = subst (λ (m : ℕ). m < 2 ^ 64) (sym turn_is) (lt_of_lt_of_le (turned_lt b x k (omega arith)) (pow_mono h))

turned_none : (b x : ℕ) → turned b x 0 ≡ x % 2 ^ b
unfolding turned
turned_none b x =
    ap (λ (k : ℕ). x % 2 ^ k * 2 ^ 0 + x / 2 ^ k % 2 ^ 0) (sub-zero b)
    ∙ ap (λ (m : ℕ). x % 2 ^ b * m + x / 2 ^ b % m) (pow-zero 2)
    ∙ omega (arith, mod-one (x / 2 ^ b))

turned-all : (b x : ℕ) → turned b x b ≡ x % 2 ^ b
unfolding turned
turned-all b x =
    ap (λ (k : ℕ). x % 2 ^ k * 2 ^ b + x / 2 ^ k % 2 ^ b) (sub_self b)
    ∙ ap (λ (m : ℕ). x % m * 2 ^ b + x / m % 2 ^ b) (pow-zero 2)
    ∙ ap (λ (m : ℕ). m * 2 ^ b + x / 1 % 2 ^ b) (mod-one x)
    ∙ ap (λ (m : ℕ). 0 * 2 ^ b + m % 2 ^ b) (div-one x)
    ∙ omega (arith, zero-mul (2 ^ b))

-- by no places modulo the width
pub left-none : (b x n : ℕ) → n % b ≡ 0 → x % 2 ^ b ≡ rotate_left b x n
unfolding rotate_left
left-none b x n e = sym (ap (turned b x) e ∙ turned_none b x)

pub right-none : (b x n : ℕ) → n % b ≡ 0 → x % 2 ^ b ≡ rotate_right b x n
unfolding rotate_right
right-none b x n e = sym (ap (λ (k : ℕ). turned b x (b - k)) e ∙ ap (turned b x) (sub-zero b) ∙ turned-all b x)
