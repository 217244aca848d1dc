-- Packed decimal: there and back is the starting value, for every pair of bases and every number of digits; and what the loops keep. Assumes nothing.
use Rattle.verdict.specs.Verdict.{pick}
use mathlib.Core.Path.{◌≡◌, sym, ap, ◌∙◌, subst}
use mathlib.Core.Bool.{Bool, true, false, ◌&&◌}
use Prim.Native.Nat.{ℕ, zero, suc, ◌+◌, ◌-◌, ◌*◌, ◌/◌, ◌%◌, ◌^◌, ◌≤◌, ◌<◌}
use native.Mathlib.Nat.{suc-mul, mul-zero, mul-suc, mul-le-mul_left, one-le-pow, le_trans, le_of_eq, lt_of_lt_of_le, zero-lt-suc, mul_comm, mul_assoc, mul-add, mul-le-mul_right, mod-lt}
use native.Mathlib.Nat.{mod-eq_of_lt, mod-add-div, div-eq_of_lt, div-div-eq-div-mul, div-lt_iff_lt-mul, add-mul-div_left, add-mul-mod_self_left, pow-zero, pow-suc, pow-succ'}
use native.Mathlib.Omega.{arith}
use lib.Dec.{T, ltb, ltb→lt, lt→ltb}
use lib.Pow.{pow-add, pow_mono}
use lib.Ieee.Bits.{is_true}
use lib.Ieee.Fits.{and_i, and_l, and_r}
use mathlib.Core.Logic.{⊎_elim}
use Rattle.conversions.proofs.Rounding.{le-or-lt}
use borrow.Author.Tests.{lt-ltb}
use Rattle.values.specs.Types.{width_of}
use Rattle.values.specs.Values.{unsigned_in, stored, pattern_of}
use Rattle.values.specs.declared.Value.TheVariants.{Unsigned}
use Rattle.values.specs.declared.Value.{Value}
use Rattle.std.specs.Prelude.{Option, Some, None}
use Rattle.conversions.specs.Conversions.{stores, result_as}
use Rattle.packed.specs.Packed.{recoded, digits_below, packed_digits, unpacked_digits, packed_at, unpacked_at, packed, unpacked}
use Rattle.conversions.proofs.Types.{pattern_in, is_stored}

-- ---- there and back
module _ (a b : ℕ) (A : 0 < a) where
  low_digit : (r q : ℕ) → r < b → (r + b * q) % b ≡ r
  low_digit r q h = add-mul-mod_self_left r b q ∙ mod-eq_of_lt h

  high-digits : (r q : ℕ) → r < b → (r + b * q) / b ≡ q
  high-digits r q h = add-mul-div_left r q (lt_of r h) ∙ ap (λ (x : ℕ). x + q) (div-eq_of_lt h) ∙ zero-plus q
    where
      lt_of : (r : ℕ) → r < b → 0 < b
      lt_of r h = omega arith

      zero-plus : (q : ℕ) → 0 + q ≡ q
      zero-plus q = omega arith

  fewer : (d n : ℕ) → n < a ^ suc d → n / a < a ^ d
  fewer d n h = (div-lt_iff_lt-mul A).1 (subst (λ (x : ℕ). n < x) (pow-suc a d) h)

  pub back : (d n : ℕ) → n < a ^ d → T (digits_below a b d n) → recoded b a d (recoded a b d n) ≡ n
  unfolding recoded digits_below
  back zero n h t = small n (subst (λ (x : ℕ). n < x) (pow-zero a) h)
    where
      small : (n : ℕ) → n < 1 → 0 ≡ n
      small n h = omega arith
  back (suc d) n h t =
      let l : n % a < b = ltb→lt (n % a) b (and_l (ltb (n % a) b) (digits_below a b d (n / a)) t) in
      let q = recoded a b d (n / a) in
      ap (λ (x : ℕ). x + a * recoded b a d ((n % a + b * q) / b)) (low_digit (n % a) q l)
      ∙ ap (λ (x : ℕ). n % a + a * recoded b a d x) (high-digits (n % a) q l)
      ∙ ap (λ (x : ℕ). n % a + a * x) (back d (n / a) (fewer d n h) (and_r (ltb (n % a) b) (digits_below a b d (n / a)) t))
      ∙ mod-add-div n a

  -- the digits of what was recoded are the digits that it was recoded from
  pub digits-below : (d n : ℕ) → T (digits_below a b d n) → T (digits_below b a d (recoded a b d n))
  unfolding recoded digits_below
  digits-below zero n t = tt
  digits-below (suc d) n t =
      let l : n % a < b = ltb→lt (n % a) b (and_l (ltb (n % a) b) (digits_below a b d (n / a)) t) in
      let q = recoded a b d (n / a) in
      and_i (ltb ((n % a + b * q) % b) a) (digits_below b a d ((n % a + b * q) / b))
      (lt→ltb ((n % a + b * q) % b) a (subst (λ (x : ℕ). x < a) (sym (low_digit (n % a) q l)) (mod-lt n A)))
      (subst (λ (x : ℕ). T (digits_below b a d x)) (sym (high-digits (n % a) q l)) (digits-below d (n / a) (and_r (ltb (n % a) b) (digits_below a b d (n / a)) t)))

  -- and there are d of them
  pub recoded-lt : (d n : ℕ) → T (digits_below a b d n) → recoded a b d n < b ^ d
  unfolding recoded digits_below
  recoded-lt zero n t = subst (λ (x : ℕ). 0 < x) (sym (pow-zero b)) (zero-lt-suc 0)
  recoded-lt (suc d) n t =
      let l : n % a < b = ltb→lt (n % a) b (and_l (ltb (n % a) b) (digits_below a b d (n / a)) t) in
      let g : recoded a b d (n / a) < b ^ d = recoded-lt d (n / a) (and_r (ltb (n % a) b) (digits_below a b d (n / a)) t) in
      subst (λ (x : ℕ). n % a + b * recoded a b d (n / a) < x) (sym (pow-succ' b d)) (under (n % a) (recoded a b d (n / a)) (b ^ d) l g)
    where
      under : (r q p : ℕ) → r < b → q < p → r + b * q < b * p
      under r q p h g =
          let m : suc q * b ≤ p * b = mul-le-mul_right b g in
          let s : suc q * b ≡ q * b + b = suc-mul q b in
          omega (arith, m, s, mul_comm b q, mul_comm b p)

  -- the digits of a smaller base are below a larger one
  pub always-below : a ≤ b → (d n : ℕ) → T (digits_below a b d n)
  unfolding digits_below
  always-below h zero n = tt
  always-below h (suc d) n = and_i (ltb (n % a) b) (digits_below a b d (n / a)) (lt→ltb (n % a) b (lt_of_lt_of_le (mod-lt n A) h)) (always-below h d (n / a))

-- ---- the two commands, at every width
abbrev number_of : Option Value → ℕ
number_of (Some v) = unsigned_in v
number_of None = 0

abbrev is_held : Option Value → Bool
is_held (Some v) = true
is_held None = false

ten : 0 < 10
ten = omega arith

sixteen : 0 < 16
sixteen = omega arith

less : 10 ≤ 16
less = omega arith

packed-back : (w n : ℕ) → n < 10 ^ (2 * w) → unpacked_at w (packed_digits (2 * w) n) ≡ Some (Unsigned n)
unfolding unpacked_at pick
packed-back w n h =
    rw (is_true (digits_below 16 10 (2 * w) (packed_digits (2 * w) n)) (digits-below 10 16 ten (2 * w) n (always-below 10 16 ten less (2 * w) n)))
    (ap (λ (x : ℕ). Some (Unsigned x)) (back 10 16 ten (2 * w) n h (always-below 10 16 ten less (2 * w) n)))

unpacked-back : (w p : ℕ) → p < 16 ^ (2 * w) → T (digits_below 16 10 (2 * w) p) → packed_at w (unpacked_digits (2 * w) p) ≡ Some (Unsigned p)
unfolding packed_at pick
unpacked-back w p h t =
    rw (lt-ltb (unpacked_digits (2 * w) p) (10 ^ (2 * w)) (recoded-lt 16 10 sixteen (2 * w) p t))
    (ap (λ (x : ℕ). Some (Unsigned x)) (back 16 10 sixteen (2 * w) p h t))

-- going there and back gives the starting value wherever the first way succeeds
pub there_and_back : (w n p : ℕ) → packed_at w n ≡ Some (Unsigned p) → unpacked_at w p ≡ Some (Unsigned n)
unfolding packed_at pick
there_and_back w n p = go (ltb n (10 ^ (2 * w))) (ltb→lt n (10 ^ (2 * w)))
  where
    go : (b : Bool) → (T b → n < 10 ^ (2 * w)) → pick b (Some (Unsigned (packed_digits (2 * w) n))) None ≡ Some (Unsigned p) → unpacked_at w p ≡ Some (Unsigned n)
    go true h e = ap (λ (x : ℕ). unpacked_at w x) (sym (ap number_of e)) ∙ packed-back w n (h tt)
    go false h e = absurd (subst T (sym (ap is_held e)) tt)

pub back-and-there : (w p n : ℕ) → p < 16 ^ (2 * w) → unpacked_at w p ≡ Some (Unsigned n) → packed_at w n ≡ Some (Unsigned p)
unfolding unpacked_at pick
back-and-there w p n l = go (digits_below 16 10 (2 * w) p) (λ t. t)
  where
    go : (b : Bool) → (T b → T (digits_below 16 10 (2 * w) p)) → pick b (Some (Unsigned (unpacked_digits (2 * w) p))) None ≡ Some (Unsigned n) → packed_at w n ≡ Some (Unsigned p)
    go true h e = ap (λ (x : ℕ). packed_at w x) (sym (ap number_of e)) ∙ unpacked-back w p l (h tt)
    go false h e = absurd (subst T (sym (ap is_held e)) tt)

-- ---- by type number, on stored patterns

pow-mul : (a m n : ℕ) → a ^ (m * n) ≡ (a ^ m) ^ n
pow-mul a m zero = ap (λ (x : ℕ). a ^ x) (mul-zero m) ∙ pow-zero a ∙ sym (pow-zero (a ^ m))
pow-mul a m (suc n) = ap (λ (x : ℕ). a ^ x) (mul-suc m n) ∙ pow-add a (m * n) m ∙ ap (λ (x : ℕ). x * a ^ m) (pow-mul a m n) ∙ sym (pow-suc (a ^ m) n)

tens : (d : ℕ) → 10 ^ d ≤ 16 ^ d
tens zero = le_of_eq (pow-zero 10 ∙ sym (pow-zero 16))
tens (suc d) =
    le_trans (le_of_eq (pow-suc 10 d)) (le_trans (mul-le-mul_right 10 (tens d)) (le_trans (mul-le-mul_left (16 ^ d) less) (le_of_eq (sym (pow-suc 16 d)))))

-- a pattern of w bytes has room for 2 * w digits of four bits
fours : (w : ℕ) → 16 ^ (2 * w) ≡ 2 ^ (8 * w)
fours w = sym (ap (λ (x : ℕ). 2 ^ x) (eight w) ∙ pow-mul 2 4 (2 * w))
  where
    eight : (w : ℕ) → 8 * w ≡ 4 * (2 * w)
    eight w = omega arith

-- wherever code 44 stores a pattern, code 45 makes the starting one of it
pub packed-unpacked : (t n q : ℕ) → packed t n ≡ stores q → unpacked t q ≡ stores n
unfolding packed unpacked packed_at pick stored pattern_of
packed-unpacked t n q = go (ltb n (10 ^ (2 * w))) (ltb→lt n (10 ^ (2 * w)))
  where
    w : ℕ
    w = width_of t

    D : ℕ
    D = packed_digits (2 * w) n

    D-low : D < 2 ^ (8 * w)
    D-low = subst (λ (x : ℕ). D < x) (fours w) (recoded-lt 10 16 ten (2 * w) n (always-below 10 16 ten less (2 * w) n))

    go : (b : Bool) → (T b → n < 10 ^ (2 * w)) → result_as t (pick b (Some (Unsigned D)) None) ≡ stores q → result_as t (unpacked_at w q) ≡ stores n
    go true h e =
        let same : q ≡ D = sym (ap pattern_in e) ∙ mod-eq_of_lt D-low in
        let room : n < 2 ^ (8 * w) = lt_of_lt_of_le (h tt) (le_trans (tens (2 * w)) (le_of_eq (fours w))) in
        ap (λ (x : ℕ). result_as t (unpacked_at w x)) same ∙ ap (result_as t) (packed-back w n (h tt)) ∙ ap stores (mod-eq_of_lt room)
    go false h e = absurd (subst T (sym (ap is_stored e)) tt)

-- and the other way round
pub unpacked-packed : (t p n : ℕ) → p < 2 ^ (8 * width_of t) → unpacked t p ≡ stores n → packed t n ≡ stores p
unfolding packed unpacked unpacked_at pick stored pattern_of
unpacked-packed t p n room = go (digits_below 16 10 (2 * w) p) (λ x. x)
  where
    w : ℕ
    w = width_of t

    D : ℕ
    D = unpacked_digits (2 * w) p

    go : (b : Bool) → (T b → T (digits_below 16 10 (2 * w) p)) → result_as t (pick b (Some (Unsigned D)) None) ≡ stores n → result_as t (packed_at w n) ≡ stores p
    go true h e =
        let low : D < 2 ^ (8 * w) = lt_of_lt_of_le (recoded-lt 16 10 sixteen (2 * w) p (h tt)) (le_trans (tens (2 * w)) (le_of_eq (fours w))) in
        let same : n ≡ D = sym (ap pattern_in e) ∙ mod-eq_of_lt low in
        ap (λ (x : ℕ). result_as t (packed_at w x)) same ∙ ap (result_as t) (unpacked-back w p (subst (λ (x : ℕ). p < x) (sym (fours w)) room) (h tt)) ∙ ap stores (mod-eq_of_lt room)
    go false h e = absurd (subst T (sym (ap is_stored e)) tt)

-- ---- what the loops keep
module _ (a b : ℕ) where
  pub step : (d i n : ℕ) → i < d → recoded a b (d - i) n ≡ n % a + b * recoded a b (d - (i + 1)) (n / a)
  unfolding recoded
  step d i n h = ap (λ (k : ℕ). recoded a b k n) (next d i h)
    where
      next : (d i : ℕ) → i < d → d - i ≡ suc (d - (i + 1))
      next d i h = omega arith

  pub none : (d i n : ℕ) → d ≤ i → recoded a b (d - i) n ≡ 0
  unfolding recoded
  none d i n h = ap (λ (k : ℕ). recoded a b k n) (left d i h)
    where
      left : (d i : ℕ) → d ≤ i → d - i ≡ 0
      left d i h = omega arith

  pub step-below : (d i n : ℕ) → i < d → digits_below a b (d - i) n ≡ ltb (n % a) b && digits_below a b (d - (i + 1)) (n / a)
  unfolding digits_below
  step-below d i n h = ap (λ (k : ℕ). digits_below a b k n) (next d i h)
    where
      next : (d i : ℕ) → i < d → d - i ≡ suc (d - (i + 1))
      next d i h = omega arith

  pub none_below : (d i n : ℕ) → d ≤ i → digits_below a b (d - i) n ≡ true
  unfolding digits_below
  none_below d i n h = ap (λ (k : ℕ). digits_below a b k n) (left d i h)
    where
      left : (d i : ℕ) → d ≤ i → d - i ≡ 0
      left d i h = omega arith

-- the weight of the next digit
pub weight : (i : ℕ) → 2 ^ (4 * (i + 1)) ≡ 2 ^ (4 * i) * 16
weight i = ap (λ (x : ℕ). 2 ^ x) (more i) ∙ pow-add 2 (4 * i) 4
  where
    more : (i : ℕ) → 4 * (i + 1) ≡ 4 * i + 4
    more i = omega arith

-- the packed digits so far, and one more
pub pack-step : (r g x q : ℕ) → r + g * x + x * 16 * q ≡ r + x * (g + 16 * q)
pack-step r g x q =
    let e : x * (g + 16 * q) ≡ x * g + x * (16 * q) = mul-add x g (16 * q) in
    let f : x * (16 * q) ≡ x * 16 * q = sym (mul_assoc x 16 q) in
    let c : g * x ≡ x * g = mul_comm g x in
    omega (arith, e, f, c)

pub pack-lt : (r g x : ℕ) → r < x → g < 10 → r + g * x < x * 16
pack-lt r g x h l =
    let m : g * x ≤ 9 * x = mul-le-mul_right x (fit g l) in
    omega (arith, m)
  where
    fit : (g : ℕ) → g < 10 → g ≤ 9
    fit g l = omega arith

pub weight-le : (i d : ℕ) → i < d → d ≤ 16 → 2 ^ (4 * i) * 16 ≤ 2 ^ 64
weight-le i d h l = le_trans (le_of_eq (sym (weight i))) (pow_mono {i = 4 * (i + 1)} {j = 64} (omega arith))

pub next-rest : (n i : ℕ) → n / 10 ^ i / 10 ≡ n / 10 ^ (i + 1)
next-rest n i = div-div-eq-div-mul n (10 ^ i) 10 ∙ ap (λ (x : ℕ). n / x) (sym (pow-suc 10 i) ∙ ap (λ (x : ℕ). 10 ^ x) (one_more i))
  where
    one_more : (i : ℕ) → suc i ≡ i + 1
    one_more i = omega arith

-- unpacking from the top
pub unpack-step : (d i p : ℕ) → 0 < i → i ≤ d → unpacked_digits (d - i) (p / 2 ^ (4 * i)) * 10 + p / 2 ^ (4 * (i - 1)) % 16 ≡ unpacked_digits (d - (i - 1)) (p / 2 ^ (4 * (i - 1)))
unpack-step d i p h l =
    let k = i - 1 in
    let e : k + 1 ≡ i = omega arith in
    let g : k < d = omega arith in
    let q : p / 2 ^ (4 * k) / 16 ≡ p / 2 ^ (4 * i) = div-div-eq-div-mul p (2 ^ (4 * k)) 16 ∙ ap (λ (x : ℕ). p / x) (sym (weight k) ∙ ap (λ (x : ℕ). 2 ^ (4 * x)) e) in
    let s : unpacked_digits (d - k) (p / 2 ^ (4 * k)) ≡ p / 2 ^ (4 * k) % 16 + 10 * unpacked_digits (d - i) (p / 2 ^ (4 * i)) =
    step 16 10 d k (p / 2 ^ (4 * k)) g ∙ ap (λ (x : ℕ). p / 2 ^ (4 * k) % 16 + 10 * unpacked_digits (d - (k + 1)) x) q ∙ ap (λ (x : ℕ). p / 2 ^ (4 * k) % 16 + 10 * unpacked_digits (d - x) (p / 2 ^ (4 * i))) e in
    omega (arith, s)

pub unpack-lt : (d i r g : ℕ) → 0 < i → i ≤ d → r < 2 ^ (4 * (d - i)) → g < 16 → r * 10 + g < 2 ^ (4 * (d - (i - 1)))
unpack-lt d i r g h l b c =
    let e : d - (i - 1) ≡ d - i + 1 = omega arith in
    subst (λ (x : ℕ). r * 10 + g < x) (sym (ap (λ (x : ℕ). 2 ^ (4 * x)) e ∙ weight (d - i))) (omega arith)

pub unpack-room : (d i : ℕ) → 0 < i → d ≤ 16 → 2 ^ (4 * (d - i)) ≤ 2 ^ 60
unpack-room d i h l = pow_mono {i = 4 * (d - i)} {j = 60} (omega arith)

-- no digit is left over exactly where n has at most d
pub no-rest : (n d : ℕ) → n / 10 ^ d ≡ 0 → n < 10 ^ d
no-rest n d e = subst (λ (x : ℕ). n < x) (one-times (10 ^ d)) ((div-lt_iff_lt-mul (ten-pos d)).0 (subst (λ (x : ℕ). x < 1) (sym e) (zero-lt-suc 0)))
  where
    one-times : (x : ℕ) → 1 * x ≡ x
    one-times x = omega arith

    ten-pos : (d : ℕ) → 0 < 10 ^ d
    ten-pos d = one-le-pow d 10 ten

pub some-rest : (n d : ℕ) → (n / 10 ^ d ≡ 0 → ⊥) → 10 ^ d ≤ n
some-rest n d h = ⊎_elim (λ l. l) (λ g. absurd (h (div-eq_of_lt g))) (le-or-lt (10 ^ d) n)
