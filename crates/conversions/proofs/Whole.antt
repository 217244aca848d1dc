-- Floats and whole numbers: what a pattern's digits and shift are worth, and which whole numbers w bytes hold. Assumes nothing.
use Rattle.verdict.specs.Verdict.{pick}
use Rattle.std.proofs.Common.{◌≡◌, ℕ, zero, suc, ◌+◌, ◌-◌, ◌*◌, ◌/◌, ◌%◌, ◌^◌, ◌<◌, ◌≤◌, Bool, true, false, cond, not, T, eqb, leb, ℤ, pos, negsuc, nat_abs, sym, refl, ap, ◌∙◌, subst, ⊎_elim, le_trans, le_of_eq, lt_of_lt_of_le, le_of_suc-le-suc, add-zero, lt_irrefl, mul-le-mul_right, mod-lt, zero-lt-suc, mul_comm, div-lt_iff_lt-mul, add_comm, eq-or-lt_of_le, mul-le-mul_left, mul-pos, le-div_iff_mul-le, mul-one, le-add_left, arith, eqb→eq, pow_pos, pow_mono, pow-add, shl_lt, le-ltb, lt-ltb, ne_eqb}
use Prim.Native.Nat.{compare}
use lib.Dec.{eqb-suc-zero, not_T}
use lib.Signed.{lt_z}
use lib.Ieee as Ieee
use lib.Ieee.{Float, Format, nan, inf, fin, binary32, binary64, prec, emax, low, up, down, hid, ones, top}
use lib.Ieee.Bits.{cond_no, is_true}
use lib.Ieee.Exact.{HasValue, odd_sign}
use lib.Ieee.Fits.{down_pos, eq→eqb}
use lib.Ieee.Scale.{round_same}
use lib.Ieee.Nearest.{closest, closest_same, nearest-ge}
use Rattle.values.proofs.Widths.{half_le}
use Rattle.values.specs.declared.Value.TheVariants.{Signed, Unsigned}
use Rattle.std.specs.Prelude.{Some, None}
use Rattle.conversions.specs.Conversions.{with_sign, held_in, nearest_whole, narrow}
use Rattle.conversions.specs.Digits.{digits_in, shift_in}

-- ---- a pattern's value
abbrev field : Format → ℕ → ℕ
field f p = p % top f / hid f

neqb : (a b : ℕ) → a < b → T (not (eqb a b))
neqb a b h = not_T (eqb a b) (λ t. lt_irrefl b (subst (λ (x : ℕ). x < b) (eqb→eq a b t) h))

one_less : (x : ℕ) → suc x - 1 ≡ x
one_less x = omega arith

pub pattern-value : (f : Format) (p : ℕ) → field f p < ones f → HasValue (Ieee.of_bits f p) (leb (top f) p) (digits_in f p * 2 ^ shift_in f p) (2 ^ low f)
unfolding Ieee.of_bits Ieee.of_fields digits_in shift_in
pattern-value f p h = go (field f p) h
  where
    s : Bool
    s = leb (top f) p

    t : ℕ
    t = p % hid f

    go : (x : ℕ) → x < ones f → HasValue (Ieee.of_fields f s x t) s ((t + cond (eqb x 0) 0 (hid f)) * 2 ^ (x - 1)) (2 ^ low f)
    go zero l = subst (λ (y : ℕ). HasValue (Ieee.odd (prec f) s t 0 (low f)) s (y * 2 ^ 0) (2 ^ low f)) (sym (add-zero t)) (odd_sign (prec f) s t 0 (low f))
    go (suc x) l =
        subst (λ (y : ℕ). HasValue (Ieee.of_fields f s (suc x) t) s ((t + cond (eqb (suc x) 0) 0 (hid f)) * 2 ^ y) (2 ^ low f)) (sym (one_less x))
        (subst (λ (v : Float). HasValue v s ((t + cond (eqb (suc x) 0) 0 (hid f)) * 2 ^ x) (2 ^ low f)) (sym (cond_no (eqb (suc x) (ones f)) (cond (eqb t 0) (inf s) nan) (Ieee.odd (prec f) s (hid f + t) x (low f)) (neqb (suc x) (ones f) l)))
        (subst (λ (b : Bool). HasValue (Ieee.odd (prec f) s (hid f + t) x (low f)) s ((t + cond b 0 (hid f)) * 2 ^ x) (2 ^ low f)) (sym (eqb-suc-zero x))
        (subst (λ (y : ℕ). HasValue (Ieee.odd (prec f) s (hid f + t) x (low f)) s (y * 2 ^ x) (2 ^ low f)) (add_comm (hid f) t) (odd_sign (prec f) s (hid f + t) x (low f)))))

-- the exponent's field of a Finite value is not all ones
abbrev Finite : Float → Type 0
Finite nan = ⊥
Finite (inf s) = ⊥
Finite (fin s m e) = Unit {0}

field-le : (f : Format) (p : ℕ) → field f p < suc (ones f)
field-le f p = (div-lt_iff_lt-mul (pow_pos (prec f - 1))).1 (subst (λ (a : ℕ). p % top f < a) (mul_comm (hid f) (suc (ones f))) (mod-lt p (mul-pos (pow_pos (prec f - 1)) (zero-lt-suc (ones f)))))

no-zero-ones : (e : ℕ) → 0 ≡ 2 * e + 1 → ⊥
no-zero-ones e h = omega arith

pub field-finite : (f : Format) (p : ℕ) → Finite (Ieee.of_bits f p) → field f p < ones f
unfolding Ieee.of_bits Ieee.of_fields
field-finite f p v = ⊎_elim (λ e. absurd (go (field f p) e v)) (λ l. l) (eq-or-lt_of_le (le_of_suc-le-suc (field-le f p)))
  where
    s : Bool
    s = leb (top f) p

    t : ℕ
    t = p % hid f

    neither : (b : Bool) → Finite (cond b (inf s) nan) → ⊥
    neither true x = x
    neither false x = x

    go : (x : ℕ) → x ≡ ones f → Finite (Ieee.of_fields f s x t) → ⊥
    go zero e w = no-zero-ones (emax f) e
    go (suc x) e w = neither (eqb t 0) (subst (λ (b : Bool). Finite (cond b (cond (eqb t 0) (inf s) nan) (Ieee.odd (prec f) s (hid f + t) x (low f)))) (is_true (eqb (suc x) (ones f)) (eq→eqb e)) w)

-- ---- the nearest whole number, from any fraction of that value
pub nearest-of : (b : Bool) (w : ℕ) (x : Float) (t : Bool) (a l : ℕ) → HasValue x t a (2 ^ l) → held_in b w (with_sign t (closest a (2 ^ l))) ≡ nearest_whole b w x
unfolding nearest_whole
nearest-of b w nan t a l v = absurd v
nearest-of b w (inf s) t a l v = absurd v
nearest-of b w (fin s m e) t a l v =
    ap (λ (y : Bool). held_in b w (with_sign y (closest a (2 ^ l)))) (sym v.0)
    ∙ ap (λ (y : ℕ). held_in b w (with_sign s y)) (closest_same a (2 ^ l) (m * up e) (down e) (pow_pos l) (down_pos e) (sym v.1))

-- ---- which whole numbers are held
pub held_same : (b b' s s' : Bool) (w n n' : ℕ) → b ≡ b' → s ≡ s' → n ≡ n' → held_in b w (with_sign s n) ≡ held_in b' w (with_sign s' n')
held_same b b' s s' w n n' p q r =
    ap (λ (x : Bool). held_in x w (with_sign s n)) p ∙ ap (λ (x : Bool). held_in b' w (with_sign x n)) q ∙ ap (λ (x : ℕ). held_in b' w (with_sign s' x)) r

pub signed-zero : (s : Bool) (w : ℕ) → Some (Signed (pos 0)) ≡ held_in true w (with_sign s 0)
unfolding held_in pick
signed-zero true w = rw (lt-ltb 0 (2 ^ (8 * w - 1)) (pow_pos (8 * w - 1)))
signed-zero false w = rw (lt-ltb 0 (2 ^ (8 * w - 1)) (pow_pos (8 * w - 1)))

pub unsigned-zero : (s : Bool) (w : ℕ) → Some (Unsigned 0) ≡ held_in false w (with_sign s 0)
unfolding held_in pick
unsigned-zero true w = rw (lt-ltb 0 (2 ^ (8 * w)) (pow_pos (8 * w)))
unsigned-zero false w = rw (lt-ltb 0 (2 ^ (8 * w)) (pow_pos (8 * w)))

pub below-held : (w n : ℕ) → 0 < n → n - 1 < 2 ^ (8 * w - 1) → Some (Signed (negsuc (n - 1))) ≡ held_in true w (with_sign true n)
unfolding held_in pick
below-held w zero p h = absurd (lt_irrefl 0 p)
below-held w (suc k) p h =
    let e : suc k - 1 ≡ k = omega arith in
    ap (λ (x : ℕ). Some (Signed (negsuc x))) e ∙ rw (lt-ltb k (2 ^ (8 * w - 1)) (subst (λ (x : ℕ). x < 2 ^ (8 * w - 1)) e h))

pub below-fault : (w n : ℕ) → 0 < n → 2 ^ (8 * w - 1) ≤ n - 1 → None ≡ held_in true w (with_sign true n)
unfolding held_in pick
below-fault w zero p h = absurd (lt_irrefl 0 p)
below-fault w (suc k) p h =
    let e : suc k - 1 ≡ k = omega arith in
    rw (le-ltb k (2 ^ (8 * w - 1)) (subst (λ (x : ℕ). 2 ^ (8 * w - 1) ≤ x) e h))

pub above-held : (w n : ℕ) → n < 2 ^ (8 * w - 1) → Some (Signed (pos n)) ≡ held_in true w (with_sign false n)
unfolding held_in pick
above-held w n h = rw (lt-ltb n (2 ^ (8 * w - 1)) h)

pub above-fault : (w n : ℕ) → 2 ^ (8 * w - 1) ≤ n → None ≡ held_in true w (with_sign false n)
unfolding held_in pick
above-fault w n h = rw (le-ltb n (2 ^ (8 * w - 1)) h)

pub negative-fault : (w n : ℕ) → 0 < n → None ≡ held_in false w (with_sign true n)
unfolding held_in pick
negative-fault w zero p = absurd (lt_irrefl 0 p)
negative-fault w (suc k) p = refl

pub unsigned-held : (w n : ℕ) → n < 2 ^ (8 * w) → Some (Unsigned n) ≡ held_in false w (with_sign false n)
unfolding held_in pick
unsigned-held w n h = rw (lt-ltb n (2 ^ (8 * w)) h)

pub unsigned-fault : (w n : ℕ) → 2 ^ (8 * w) ≤ n → None ≡ held_in false w (with_sign false n)
unfolding held_in pick
unsigned-fault w n h = rw (le-ltb n (2 ^ (8 * w)) h)

full-le : (w : ℕ) → w ≤ 8 → 2 ^ (8 * w) ≤ 2 ^ 64
full-le w h = let e : 8 * w ≤ 64 = omega arith in pow_mono e

-- a number from 2 ^ 64 on fits no type
pub held-large : (b s : Bool) (w n : ℕ) → w ≤ 8 → 2 ^ 64 ≤ n → None ≡ held_in b w (with_sign s n)
held-large true true w n h l = let p : 0 < n = omega arith in below-fault w n p (omega (arith, half_le w h))
held-large true false w n h l = above-fault w n (omega (arith, half_le w h))
held-large false true w n h l = let p : 0 < n = omega arith in negative-fault w n p
held-large false false w n h l = unsigned-fault w n (le_trans (full-le w h) l)

-- ---- sizes of an LREAL's digits
cond-le : (b : Bool) (h : ℕ) → cond b 0 h ≤ h
cond-le true h = omega arith
cond-le false h = omega arith

pub digits_lt : (p : ℕ) → digits_in binary64 p < 2 ^ 53
unfolding digits_in
digits_lt p = omega (arith, cond-le (eqb (p % 2 ^ 63 / 2 ^ 52) 0) (2 ^ 52))

pub digits-room : (p j : ℕ) → j ≤ 1085 → digits_in binary64 p * 2 ^ (j - 1074) < 2 ^ 64
digits-room p j h =
    let k : j - 1074 ≤ 11 = omega arith in
    lt_of_lt_of_le (shl_lt {a = digits_in binary64 p} 53 (j - 1074) (digits_lt p)) (pow_mono {i = 53 + (j - 1074)} {j = 64} (omega arith))

-- with a shift, the leading digit is there
pub digits-ge : (p : ℕ) → 0 < shift_in binary64 p → 2 ^ 52 ≤ digits_in binary64 p
unfolding digits_in shift_in
digits-ge p h =
    let d : (p % 2 ^ 63 / 2 ^ 52 ≡ 0) → ⊥ = λ e. omega arith in
    subst (λ (b : Bool). 2 ^ 52 ≤ p % 2 ^ 52 + cond b 0 (2 ^ 52)) (sym (ne_eqb (p % 2 ^ 63 / 2 ^ 52) 0 d)) (le-add_left (2 ^ 52) (p % 2 ^ 52))

pub closest-large : (d j : ℕ) → 1085 < j → 2 ^ 52 ≤ d → 2 ^ 64 ≤ closest (d * 2 ^ j) (2 ^ 1074)
closest-large d j h k =
    le_trans ((le-div_iff_mul-le (pow_pos 1074)).1 (le_trans (le_of_eq (sym (pow-add 2 64 1074) ∙ pow-add 2 52 1086)) (le_trans (mul-le-mul_left (2 ^ 52) (pow_mono h)) (mul-le-mul_right (2 ^ j) k))))
    (nearest-ge (d * 2 ^ j / 2 ^ 1074) (compare (d * 2 ^ j % 2 ^ 1074 * 2) (2 ^ 1074)))

-- ---- an LREAL by its pattern
small : (p : ℕ) → shift_in binary64 p ≤ 1085 → field binary64 p < ones binary64
unfolding shift_in
small p g = omega arith

pub by-pattern : (x : Float) → Ieee.of_bits binary64 (Ieee.to_bits binary64 x) ≡ x → shift_in binary64 (Ieee.to_bits binary64 x) ≤ 1085
    → HasValue x (leb (2 ^ 63) (Ieee.to_bits binary64 x)) (digits_in binary64 (Ieee.to_bits binary64 x) * 2 ^ shift_in binary64 (Ieee.to_bits binary64 x)) (2 ^ 1074)
by-pattern x e h =
    let p = Ieee.to_bits binary64 x in
    subst (λ (y : Float). HasValue y (leb (2 ^ 63) p) (digits_in binary64 p * 2 ^ shift_in binary64 p) (2 ^ 1074)) e
    (pattern-value binary64 p (small p h))

pub out_of_range : (b : Bool) (w : ℕ) (x : Float) → Ieee.of_bits binary64 (Ieee.to_bits binary64 x) ≡ x → w ≤ 8 → 1085 < shift_in binary64 (Ieee.to_bits binary64 x) → None ≡ nearest_whole b w x
unfolding nearest_whole
out_of_range b w nan e h l = refl
out_of_range b w (inf s) e h l = refl
out_of_range b w (fin s m k) e h l =
    let p = Ieee.to_bits binary64 (fin s m k) in
    let j = shift_in binary64 p in
    let v : HasValue (fin s m k) (leb (2 ^ 63) p) (digits_in binary64 p * 2 ^ j) (2 ^ 1074) =
    subst (λ (y : Float). HasValue y (leb (2 ^ 63) p) (digits_in binary64 p * 2 ^ j) (2 ^ 1074)) e
    (pattern-value binary64 p (field-finite binary64 p (subst Finite (sym e) tt))) in
    let pl : 0 < j = omega arith in
    held-large b (leb (2 ^ 63) p) w (closest (digits_in binary64 p * 2 ^ j) (2 ^ 1074)) h (closest-large (digits_in binary64 p) j l (digits-ge p pl))
    ∙ nearest-of b w (fin s m k) (leb (2 ^ 63) p) (digits_in binary64 p * 2 ^ j) 1074 v

-- ---- signed numbers by sign and magnitude
nothing-less : (n : ℕ) → 0 ≤ n
nothing-less n = omega arith

pub sign-and-size : (z : ℤ) → with_sign (lt_z z (pos 0)) (nat_abs z) ≡ z
sign-and-size (pos n) = ap (λ (b : Bool). with_sign b n) (le-ltb n 0 (nothing-less n))
sign-and-size (negsuc n) = refl

pub of_int_is : (f : Format) (z : ℤ) → Ieee.round f (lt_z z (pos 0)) (nat_abs z) 1 ≡ Ieee.of_int f z
unfolding Ieee.of_int
of_int_is f (pos n) = ap (λ (b : Bool). Ieee.round f b n 1) (le-ltb n 0 (nothing-less n))
of_int_is f (negsuc n) = refl

-- n is n * 2 ^ 1074 / 2 ^ 1074
pub whole_scaled : (s : Bool) (n : ℕ) → Ieee.round binary32 s (n * 2 ^ 1074) (2 ^ 1074) ≡ Ieee.round binary32 s n 1
whole_scaled s n = round_same binary32 s (n * 2 ^ 1074) (2 ^ 1074) n 1 (pow_pos 1074) (zero-lt-suc 0) (mul-one (n * 2 ^ 1074))

-- ---- an LREAL as a REAL
shift_top : (p : ℕ) → shift_in binary64 p ≡ 2046 → field binary64 p < ones binary64 → ⊥
unfolding shift_in
shift_top p e h = omega arith

pub shift_le : (p : ℕ) → shift_in binary64 p ≤ 2046
unfolding shift_in
shift_le p = omega (arith, field-le binary64 p)

below_top : (p : ℕ) → (shift_in binary64 p ≡ 2046 → ⊥) → field binary64 p < ones binary64
unfolding shift_in
below_top p d = lt_of_ne (field binary64 p) (field-le binary64 p) d
  where
    lt_of_ne : (x : ℕ) → x < 2048 → (x - 1 ≡ 2046 → ⊥) → x < 2047
    lt_of_ne x h d = ⊎_elim (λ (e : x ≡ 2047). absurd (d (omega arith))) (λ (l : x < 2047). l) (eq-or-lt_of_le (le_of_suc-le-suc h))

pub narrow-up : (x : Float) → Ieee.of_bits binary64 (Ieee.to_bits binary64 x) ≡ x → T (not (Ieee.is_nan x)) → shift_in binary64 (Ieee.to_bits binary64 x) ≡ 2046 → Ieee.to_bits binary64 x < 2 ^ 63 → inf false ≡ narrow x
unfolding narrow Ieee.is_nan Ieee.to_bits
narrow-up nan e n h l = absurd n
narrow-up (inf true) e n h l = absurd (omega arith)
narrow-up (inf false) e n h l = refl
narrow-up (fin s m k) e n h l = absurd (shift_top (Ieee.to_bits binary64 (fin s m k)) h (field-finite binary64 (Ieee.to_bits binary64 (fin s m k)) (subst Finite (sym e) tt)))

pub narrow-down : (x : Float) → Ieee.of_bits binary64 (Ieee.to_bits binary64 x) ≡ x → T (not (Ieee.is_nan x)) → shift_in binary64 (Ieee.to_bits binary64 x) ≡ 2046 → 2 ^ 63 ≤ Ieee.to_bits binary64 x → inf true ≡ narrow x
unfolding narrow Ieee.is_nan Ieee.to_bits
narrow-down nan e n h l = absurd n
narrow-down (inf true) e n h l = refl
narrow-down (inf false) e n h l = absurd (omega arith)
narrow-down (fin s m k) e n h l = absurd (shift_top (Ieee.to_bits binary64 (fin s m k)) h (field-finite binary64 (Ieee.to_bits binary64 (fin s m k)) (subst Finite (sym e) tt)))

narrow-of : (x : Float) (t : Bool) (a l : ℕ) → HasValue x t a (2 ^ l) → Ieee.round binary32 t a (2 ^ l) ≡ narrow x
unfolding narrow
narrow-of nan t a l v = absurd v
narrow-of (inf s) t a l v = absurd v
narrow-of (fin s m e) t a l v =
    ap (λ (y : Bool). Ieee.round binary32 y a (2 ^ l)) (sym v.0)
    ∙ round_same binary32 s a (2 ^ l) (m * up e) (down e) (pow_pos l) (down_pos e) (sym v.1)

pub narrow-finite : (x : Float) → Ieee.of_bits binary64 (Ieee.to_bits binary64 x) ≡ x → (shift_in binary64 (Ieee.to_bits binary64 x) ≡ 2046 → ⊥)
    → Ieee.round binary32 (leb (2 ^ 63) (Ieee.to_bits binary64 x)) (digits_in binary64 (Ieee.to_bits binary64 x) * 2 ^ shift_in binary64 (Ieee.to_bits binary64 x)) (2 ^ 1074) ≡ narrow x
narrow-finite x e d =
    let p = Ieee.to_bits binary64 x in
    narrow-of x (leb (2 ^ 63) p) (digits_in binary64 p * 2 ^ shift_in binary64 p) 1074
    (subst (λ (y : Float). HasValue y (leb (2 ^ 63) p) (digits_in binary64 p * 2 ^ shift_in binary64 p) (2 ^ 1074)) e (pattern-value binary64 p (below_top p d)))
