-- Whole numbers modulo 2 ^ b, once for every b. `Cong m z r`: r is z modulo m. It is kept by sums and products (`cong-add`, `cong-mul`),
-- and a pattern is the one number below 2 ^ b with it (`pattern-cong`, `cong-pattern`). `modular` is the law that ADD, SUB and MUL cite.
-- Assumes nothing.
use Rattle.std.proofs.Common.{◌≡◌, ℕ, zero, suc, ◌+◌, ◌-◌, ◌*◌, ◌/◌, ◌%◌, ◌^◌, ◌<◌, ◌≤◌, Bool, true, false, cond, ltb, ℤ, pos, negsuc, ◌+ℤ◌, ◌-ℤ◌, ◌*ℤ◌, neg_ℤ, sym, refl, ap, ◌∙◌, subst, inl, inr, add-zero, add_assoc, mod-lt, mod-eq_of_lt, mul_assoc, mul_comm, add-mul, add_comm, one-mul, pow-suc, mul-zero, div-add-mod', mul-add, div-one, arith, pow_pos, pow_mono, ltb-false, ltb-true, le-ltb, lt-ltb}
use native.Mathlib.Nat.{mod-mod, mod-add-mod, add-mod-mod, mod-eq-sub-mod, mod_self, zero-mod, add-mul-mod_self_right}
use lib.IntN.{sub_ℕ, -ℤ-+ℤ_cancel}
use lib.Signed.{quot_z}
use lib.Pow.{mod-mod-pow, pow-lt}
use Rattle.verdict.specs.Verdict.{pick}
use Rattle.values.specs.Width.{Width, pattern, signed, wrap}

abbrev pub Cong : ℕ → ℤ → ℕ → Type 0
Cong m (pos n) r = r % m ≡ n % m
Cong m (negsuc n) r = (r + suc n) % m ≡ 0

-- ---- remainders
swap : (m r a u : ℕ) → r % m ≡ a % m → (r + u) % m ≡ (a + u) % m
swap m r a u e = sym (mod-add-mod r m u) ∙ ap (λ (x : ℕ). (x + u) % m) e ∙ mod-add-mod a m u

gone : (m u v : ℕ) → v % m ≡ 0 → (u + v) % m ≡ u % m
gone m u v e = sym (add-mod-mod u v m) ∙ ap (λ (x : ℕ). (u + x) % m) e ∙ ap (λ (x : ℕ). x % m) (add-zero u)

pub mul_left : (m a b : ℕ) → (a % m * b) % m ≡ (a * b) % m
mul_left m a b =
    sym (add-mul-mod_self_right (a % m * b) (a / m * b) m)
    ∙ ap (λ (x : ℕ). x % m) (omega (arith, add-mul (a / m * m) (a % m) b, mul_assoc (a / m) m b, mul_assoc (a / m) b m, ap (λ (x : ℕ). a / m * x) (mul_comm m b), ap (λ (x : ℕ). x * b) (div-add-mod' a m)))

mul-swap : (m r a u : ℕ) → r % m ≡ a % m → (r * u) % m ≡ (a * u) % m
mul-swap m r a u e = sym (mul_left m r u) ∙ ap (λ (x : ℕ). (x * u) % m) e ∙ mul_left m a u

mul-swap' : (m r a u : ℕ) → r % m ≡ a % m → (u * r) % m ≡ (u * a) % m
mul-swap' m r a u e = ap (λ (x : ℕ). x % m) (mul_comm u r) ∙ mul-swap m r a u e ∙ ap (λ (x : ℕ). x % m) (mul_comm a u)

mul-gone : (m u v : ℕ) → v % m ≡ 0 → (u * v) % m ≡ 0
mul-gone m u v e = mul-swap' m v 0 u (e ∙ sym (zero-mod m)) ∙ ap (λ (x : ℕ). x % m) (mul-zero u) ∙ zero-mod m

-- the same number modulo m
cong-same : (m : ℕ) (z : ℤ) (r t : ℕ) → r % m ≡ t % m → Cong m z r → Cong m z t
cong-same m (pos n) r t e h = sym e ∙ h
cong-same m (negsuc n) r t e h = swap m t r (suc n) (sym e) ∙ h

-- ---- sums
cong-sub : (m a n r t : ℕ) (b : Bool) → ltb a (suc n) ≡ b → r % m ≡ a % m → (t + suc n) % m ≡ 0 → Cong m (cond b (negsuc (suc n - suc a)) (pos (a - suc n))) (r + t)
cong-sub m a n r t true h p q =
    let lt : a < suc n = ltb-true a (suc n) h in
    ap (λ (x : ℕ). x % m) (add_assoc r t (suc (suc n - suc a))) ∙ swap m r a (t + suc (suc n - suc a)) p ∙ ap (λ (x : ℕ). x % m) (omega arith) ∙ q
cong-sub m a n r t false h p q =
    let ge : suc n ≤ a = ltb-false a (suc n) h in
    let e : a + t ≡ (a - suc n) + (t + suc n) = omega arith in
    swap m r a t p ∙ ap (λ (x : ℕ). x % m) e ∙ gone m (a - suc n) (t + suc n) q

pub cong-add : (m : ℕ) (x y : ℤ) (r t : ℕ) → Cong m x r → Cong m y t → Cong m (x +ℤ y) (r + t)
cong-add m (pos a) (pos c) r t p q = swap m r a t p ∙ ap (λ (x : ℕ). x % m) (add_comm a t) ∙ swap m t c a q ∙ ap (λ (x : ℕ). x % m) (add_comm c a)
cong-add m (pos a) (negsuc n) r t p q = cong-sub m a n r t (ltb a (suc n)) refl p q
cong-add m (negsuc n) (pos a) r t p q = subst (λ (x : ℕ). Cong m (sub_ℕ a (suc n)) x) (add_comm t r) (cong-sub m a n t r (ltb a (suc n)) refl q p)
cong-add m (negsuc k) (negsuc n) r t p q =
    let e : r + t + suc (suc (k + n)) ≡ (r + suc k) + (t + suc n) = omega arith in
    ap (λ (x : ℕ). x % m) e ∙ gone m (r + suc k) (t + suc n) q ∙ p

-- ---- products
cong-neg : (m s r : ℕ) → (r + s) % m ≡ 0 → Cong m (neg_ℤ (pos s)) r
cong-neg m zero r h = ap (λ (x : ℕ). x % m) (sym (add-zero r)) ∙ h ∙ sym (zero-mod m)
cong-neg m (suc s) r h = h

cong-pos-neg : (m a n r t : ℕ) → r % m ≡ a % m → (t + suc n) % m ≡ 0 → Cong m (neg_ℤ (pos (a * suc n))) (r * t)
cong-pos-neg m a n r t p q =
    cong-neg m (a * suc n) (r * t)
    (swap m (r * t) (a * t) (a * suc n) (mul-swap m r a t p) ∙ ap (λ (x : ℕ). x % m) (sym (mul-add a t (suc n))) ∙ mul-gone m a (t + suc n) q)

pub cong-mul : (m : ℕ) (x y : ℤ) (r t : ℕ) → Cong m x r → Cong m y t → Cong m (x *ℤ y) (r * t)
cong-mul m (pos a) (pos c) r t p q = mul-swap m r a t p ∙ mul-swap' m t c a q
cong-mul m (pos a) (negsuc n) r t p q = cong-pos-neg m a n r t p q
cong-mul m (negsuc n) (pos a) r t p q =
    subst (λ (k : ℕ). Cong m (neg_ℤ (pos k)) (r * t)) (mul_comm a (suc n))
    (subst (λ (k : ℕ). Cong m (neg_ℤ (pos (a * suc n))) k) (mul_comm t r) (cong-pos-neg m a n t r q p))
cong-mul m (negsuc k) (negsuc n) r t p q =
    sym (gone m (r * t) (suc k * (t + suc n)) (mul-gone m (suc k) (t + suc n) q))
    ∙ ap (λ (x : ℕ). x % m) (omega (arith, mul-add (suc k) t (suc n), add-mul r (suc k) t))
    ∙ gone m (suc k * suc n) ((r + suc k) * t) (ap (λ (x : ℕ). x % m) (mul_comm (r + suc k) t) ∙ mul-gone m t (r + suc k) p)

-- ---- the pattern
pub pattern-cong : (b : ℕ) (z : ℤ) → Cong (2 ^ b) z (pattern b z)
unfolding pattern
pattern-cong b (pos n) = mod-mod n (2 ^ b)
pattern-cong b (negsuc n) =
    let l : n % 2 ^ b < 2 ^ b = mod-lt n (pow_pos b) in
    let e : 2 ^ b - suc (n % 2 ^ b) + suc n ≡ 2 ^ b + n / 2 ^ b * 2 ^ b = omega (arith, div-add-mod' n (2 ^ b)) in
    ap (λ (x : ℕ). x % 2 ^ b) e ∙ add-mul-mod_self_right (2 ^ b) (n / 2 ^ b) (2 ^ b) ∙ mod_self (2 ^ b)

pub pattern_lt : (b : ℕ) (z : ℤ) → pattern b z < 2 ^ b
unfolding pattern
pattern_lt b (pos n) = mod-lt n (pow_pos b)
pattern_lt b (negsuc n) = let l : 0 < 2 ^ b = pow_pos b in omega arith

-- a sum of two remainders, one of them not 0, that is 0 modulo m, is m
whole : (m s : ℕ) (b : Bool) → ltb s m ≡ b → 0 < s → s < m + m → s % m ≡ 0 → s ≡ m
whole m s true h p q e = let l : s < m = ltb-true s m h in omega (arith, mod-eq_of_lt l)
whole m s false h p q e =
    let g : m ≤ s = ltb-false s m h in
    let l : s - m < m = omega arith in
    omega (arith, mod-eq-sub-mod g, mod-eq_of_lt l)

pub cong-pattern : (b : ℕ) (z : ℤ) (r : ℕ) → Cong (2 ^ b) z r → pattern b z ≡ r % 2 ^ b
unfolding pattern
cong-pattern b (pos n) r h = sym h
cong-pattern b (negsuc n) r h =
    let m = 2 ^ b in
    let l : n % 2 ^ b < 2 ^ b = mod-lt n (pow_pos b) in
    let k : r % 2 ^ b < 2 ^ b = mod-lt r (pow_pos b) in
    let e : (r % 2 ^ b + suc (n % 2 ^ b)) % 2 ^ b ≡ 0 =
    mod-add-mod r (2 ^ b) (suc (n % 2 ^ b))
    ∙ ap (λ (x : ℕ). x % 2 ^ b) (omega arith)
    ∙ mod-add-mod n (2 ^ b) (suc r)
    ∙ ap (λ (x : ℕ). x % 2 ^ b) (omega arith)
    ∙ h
    in
    omega (arith, whole (2 ^ b) (r % 2 ^ b + suc (n % 2 ^ b)) (ltb (r % 2 ^ b + suc (n % 2 ^ b)) (2 ^ b)) refl (omega arith) (omega arith) e)

-- ---- document 01, "Whole-number sums and products wrap at the type's width": the one modular law that ADD, SUB and MUL of every width cite.
-- What is computed is congruent to the exact result (`cong-add`, `cong-mul`, `cong-difference`); cut to b bits it is the exact result's pattern.
pub modular : (b : ℕ) (z : ℤ) (r : ℕ) {p : ℕ} → Cong (2 ^ b) z r → p ≡ r % 2 ^ b → p ≡ pattern b z
modular b z r h e = e ∙ sym (cong-pattern b z r h)

-- fewer bits
pub cong-less : (j k : ℕ) (z : ℤ) (r : ℕ) → Cong (2 ^ (j + k)) z r → Cong (2 ^ k) z r
cong-less j k (pos n) r h = sym (mod-mod-pow r j k) ∙ ap (λ (x : ℕ). x % 2 ^ k) h ∙ mod-mod-pow n j k
cong-less j k (negsuc n) r h = sym (mod-mod-pow (r + suc n) j k) ∙ ap (λ (x : ℕ). x % 2 ^ k) h ∙ zero-mod (2 ^ k)

pub cong-narrow : (w : ℕ) → w ≤ 8 → (z : ℤ) (r : ℕ) → Cong (2 ^ 64) z r → Cong (2 ^ (8 * w)) z r
cong-narrow w h z r p =
    let e : 64 ≡ (64 - 8 * w) + 8 * w = omega arith in
    cong-less (64 - 8 * w) (8 * w) z r (subst (λ (b : ℕ). Cong (2 ^ b) z r) e p)

-- the pattern at 64 bits is one at any width up to that
pub cong-64 : (w : ℕ) → w ≤ 8 → (z : ℤ) → Cong (2 ^ (8 * w)) z (pattern 64 z)
cong-64 w h z = cong-narrow w h z (pattern 64 z) (pattern-cong 64 z)

pub pattern-64 : (w : ℕ) → w ≤ 8 → (z : ℤ) → pattern (8 * w) z ≡ pattern 64 z % 2 ^ (8 * w)
pattern-64 w h z = cong-pattern (8 * w) z (pattern 64 z) (cong-64 w h z)

pub mod-64 : (w : ℕ) → w ≤ 8 → (n : ℕ) → n % 2 ^ 64 % 2 ^ (8 * w) ≡ n % 2 ^ (8 * w)
mod-64 w h n =
    let e : 64 ≡ (64 - 8 * w) + 8 * w = omega arith in
    ap (λ (b : ℕ). n % 2 ^ b % 2 ^ (8 * w)) e ∙ mod-mod-pow n (64 - 8 * w) (8 * w)

-- ---- powers of a width, and signs
pub half_le : (w : ℕ) → w ≤ 8 → 2 ^ (8 * w - 1) ≤ 2 ^ 63
half_le w h = let e : 8 * w - 1 ≤ 63 = omega arith in pow_mono e

pub two-halves : (w : ℕ) → 0 < w → 2 ^ (8 * w) ≡ 2 ^ (8 * w - 1) * 2
two-halves w h = let e : 8 * w ≡ suc (8 * w - 1) = omega arith in ap (λ (k : ℕ). 2 ^ k) e ∙ pow-suc 2 (8 * w - 1)

pub shifted : (k : ℕ) → k < 64 → (1 * 2 ^ k) % 2 ^ 64 ≡ 2 ^ k
shifted k h = ap (λ (x : ℕ). x % 2 ^ 64) (one-mul (2 ^ k)) ∙ mod-eq_of_lt (pow-lt h)

pub signed_low : (b p : ℕ) → p < 2 ^ (b - 1) → signed b p ≡ pos p
unfolding signed pick
signed_low b p h = rw (lt-ltb p (2 ^ (b - 1)) h)

pub signed_high : (b p : ℕ) → 2 ^ (b - 1) ≤ p → signed b p ≡ negsuc (2 ^ b - suc p)
unfolding signed pick
signed_high b p h = rw (le-ltb p (2 ^ (b - 1)) h)

-- one law for the four widths of a supplied wrapping sum
pub add_at : (w b : ℕ) → 8 * w ≡ b → (x y : ℕ) {r : ℕ} → r ≡ (x % 2 ^ b + y % 2 ^ b) % 2 ^ b → r ≡ (x + y) % 2 ^ (8 * w)
unfolding pattern
add_at w b e x y h =
    modular b (pos x +ℤ pos y) (x % 2 ^ b + y % 2 ^ b) (cong-add (2 ^ b) (pos x) (pos y) (x % 2 ^ b) (y % 2 ^ b) (mod-mod x (2 ^ b)) (mod-mod y (2 ^ b))) h
    ∙ ap (λ (k : ℕ). (x + y) % 2 ^ k) (sym e)

-- the low bytes of a product of 64 bits
pub mul_at : (w : ℕ) → w ≤ 8 → (x y : ℕ) {r : ℕ} → r ≡ (x * y) % 2 ^ 64 % 2 ^ (8 * w) → r ≡ (x * y) % 2 ^ (8 * w)
unfolding pattern
mul_at w h x y e =
    modular (8 * w) (pos x *ℤ pos y) ((x * y) % 2 ^ 64) (cong-narrow w h (pos x *ℤ pos y) ((x * y) % 2 ^ 64) (mod-mod (x * y) (2 ^ 64))) e

-- the width that is none of the first three
pub last-width : {w : ℕ} → Width w → (w ≡ 1 → ⊥) → (w ≡ 2 → ⊥) → (w ≡ 4 → ⊥) → w ≡ 8
last-width (inl e) a b c = absurd (a e)
last-width (inr (inl e)) a b c = absurd (b e)
last-width (inr (inr (inl e))) a b c = absurd (c e)
last-width (inr (inr (inr e))) a b c = e

pub width-pos : {w : ℕ} → Width w → 0 < w
width-pos (inl e) = omega arith
width-pos (inr (inl e)) = omega arith
width-pos (inr (inr (inl e))) = omega arith
width-pos (inr (inr (inr e))) = omega arith

pub width-le : {w : ℕ} → Width w → w ≤ 8
width-le (inl e) = omega arith
width-le (inr (inl e)) = omega arith
width-le (inr (inr (inl e))) = omega arith
width-le (inr (inr (inr e))) = omega arith

-- ---- the negative of a number
pub cong-minus : (m : ℕ) (z : ℤ) (p r : ℕ) → Cong m z p → (r + p) % m ≡ 0 → Cong m (neg_ℤ z) r
cong-minus m (pos n) p r h e = cong-neg m n r (ap (λ (k : ℕ). k % m) (add_comm r n) ∙ swap m n p r (sym h) ∙ ap (λ (k : ℕ). k % m) (add_comm p r) ∙ e)
cong-minus m (negsuc n) p r h e = sym (gone m r (p + suc n) h) ∙ ap (λ (k : ℕ). k % m) (omega arith) ∙ gone m (suc n) (r + p) e

pub quot-minus-one : (z : ℤ) → quot_z z (negsuc 0) ≡ neg_ℤ z
quot-minus-one (pos n) = ap (λ (k : ℕ). neg_ℤ (pos k)) (div-one n)
quot-minus-one (negsuc n) = ap pos (div-one (suc n))

-- ---- what the functions cite
pub below-full : (b n : ℕ) {r : ℕ} → r ≡ n % 2 ^ b → r < 2 ^ b
below-full b n e = subst (λ (k : ℕ). k < 2 ^ b) (sym e) (mod-lt n (pow_pos b))

pub wrap-of : (b : ℕ) (z : ℤ) (p : ℕ) → pattern b z ≡ p → signed b p ≡ wrap b z
unfolding wrap
wrap-of b z p e = ap (signed b) (sym e)

-- ---- differences: what t added to wraps back to p
pub cong-difference : (b : ℕ) (x y : ℤ) (p q r : ℕ) → Cong (2 ^ b) x p → Cong (2 ^ b) y q → (r + q) % 2 ^ b ≡ p % 2 ^ b → Cong (2 ^ b) (x -ℤ y) r
cong-difference b x y p q r hx hy e =
    let m = 2 ^ b in
    let l : q % 2 ^ b < 2 ^ b = mod-lt q (pow_pos b) in
    let t = 2 ^ b - q % 2 ^ b in
    let f : 2 ^ b - q % 2 ^ b + q ≡ 2 ^ b + q / 2 ^ b * 2 ^ b = omega (arith, div-add-mod' q (2 ^ b)) in
    let z : (2 ^ b - q % 2 ^ b + q) % 2 ^ b ≡ 0 = ap (λ (k : ℕ). k % 2 ^ b) f ∙ add-mul-mod_self_right (2 ^ b) (q / 2 ^ b) (2 ^ b) ∙ mod_self (2 ^ b) in
    let g : (p + (2 ^ b - q % 2 ^ b)) % 2 ^ b ≡ r % 2 ^ b =
    swap (2 ^ b) p (r + q) (2 ^ b - q % 2 ^ b) (sym e)
    ∙ ap (λ (k : ℕ). k % 2 ^ b) (omega arith)
    ∙ gone (2 ^ b) r (2 ^ b - q % 2 ^ b + q) z
    in
    cong-same (2 ^ b) (x -ℤ y) (p + (2 ^ b - q % 2 ^ b)) r g (cong-add (2 ^ b) x (neg_ℤ y) p (2 ^ b - q % 2 ^ b) hx (cong-minus (2 ^ b) y q (2 ^ b - q % 2 ^ b) hy z))

-- one law for the four widths of a supplied wrapping difference
pub sub_at : (w b : ℕ) → 8 * w ≡ b → (x y u v : ℕ) → u % 2 ^ b ≡ x % 2 ^ b → v % 2 ^ b ≡ y % 2 ^ b → v ≤ 2 ^ b → {r : ℕ} → r ≡ (u + (2 ^ b - v)) % 2 ^ b → r ≡ pattern (8 * w) (pos x -ℤ pos y)
sub_at w b e x y u v f g l h =
    let k : (u + (2 ^ b - v) + v) % 2 ^ b ≡ u % 2 ^ b = ap (λ (n : ℕ). n % 2 ^ b) (omega arith) ∙ gone (2 ^ b) u (2 ^ b) (mod_self (2 ^ b)) in
    modular b (pos x -ℤ pos y) (u + (2 ^ b - v)) (cong-difference b (pos x) (pos y) u v (u + (2 ^ b - v)) f g k) h
    ∙ ap (λ (k : ℕ). pattern k (pos x -ℤ pos y)) (sym e)

-- the difference of two patterns, congruent to that of the numbers
pub cong-subtract : (b : ℕ) (x y : ℤ) (p q : ℕ) → Cong (2 ^ b) x p → Cong (2 ^ b) y q → Cong (2 ^ b) (x -ℤ y) (pattern b (pos p -ℤ pos q))
cong-subtract b x y p q hx hy =
    let h : Cong (2 ^ b) (pos p +ℤ neg_ℤ (pos q)) (pattern b (pos p -ℤ pos q)) = pattern-cong b (pos p -ℤ pos q) in
    let e : (pattern b (pos p -ℤ pos q) + q) % 2 ^ b ≡ p % 2 ^ b =
    subst (λ (z : ℤ). Cong (2 ^ b) z (pattern b (pos p -ℤ pos q) + q)) (-ℤ-+ℤ_cancel (pos p) (pos q)) (cong-add (2 ^ b) (pos p -ℤ pos q) (pos q) (pattern b (pos p -ℤ pos q)) q h refl)
    in
    cong-difference b x y p q (pattern b (pos p -ℤ pos q)) hx hy e

pub pattern-cut : (b : ℕ) (z : ℤ) {r : ℕ} → r ≡ pattern b z → r ≡ pattern b z % 2 ^ b
pattern-cut b z e = e ∙ sym (mod-eq_of_lt (pattern_lt b z))
