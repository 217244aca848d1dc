-- Laws of `bytes_le`, `value_le` and `read_le`, for every width at once. Assumes nothing.
use mathlib.Core.Path.{◌≡◌, refl, sym, ap, ◌∙◌, subst}
use mathlib.Core.List.{List, [], ◌∷◌}
use Prim.Native.Nat.{ℕ, zero, suc, ◌+◌, ◌*◌, ◌/◌, ◌%◌, ◌^◌, ◌≤◌, ◌<◌}
use native.Mathlib.Nat.{pow-zero, pow-suc, mod-one, one-le-pow, pow-le-pow_right, lt_of_lt_of_le, le_of_suc-le-suc, not-suc-le-zero}
use native.Mathlib.Omega.{arith}
use lib.Arith.{mod-mul, digits_lt, digits_mod, digits_div}
use lib.ListN.{length, take, drop, get_or}
use lib.Dec.{lit<}
use mir.Syntax.{w8, w64}
use mir.Val.{Fits}
use native.Mathlib.Numerals.{add-one}
use lib.Seq.{get_or-drop, take-nil, drop-nil}
use Rattle.memory.specs.Memory.{splice, part, bytes_le, value_le, read_le}
use Rattle.memory.proofs.Laws.{part-splice-same, part-splice-below, length_part}

pub length-bytes_le : (w v : ℕ) → length (bytes_le w v) ≡ w
unfolding bytes_le
length-bytes_le zero v = refl
length-bytes_le (suc w) v = ap suc (length-bytes_le w (v / 256))

-- the number that the w low bytes of v spell
pub value-bytes : (w v : ℕ) → value_le (bytes_le w v) ≡ v % 256 ^ w
unfolding bytes_le value_le
value-bytes zero v = sym (ap (λ (m : ℕ). v % m) (pow-zero 256) ∙ mod-one v)
value-bytes (suc w) v =
    ap (λ (n : ℕ). n * 256 + v % 256) (value-bytes w (v / 256))
    ∙ sym (ap (λ (m : ℕ). v % m) (pow-suc 256 w) ∙ mod-mul v (one-le-pow w 256 (lit< tt)) (lit< tt))

-- a number of w bytes is below 256 ^ w
pub value-lt : (n : ℕ) (l : List ℕ) → ((i : ℕ) → get_or l i 0 < 256) → value_le (take n l) < 256 ^ n
unfolding value_le
value-lt zero l h = subst (λ (m : ℕ). 0 < m) (sym (pow-zero 256)) (lit< tt)
value-lt (suc n) [] h = one-le-pow (suc n) 256 (lit< tt)
value-lt (suc n) (x ∷ l) h = subst (λ (m : ℕ). value_le (take n l) * 256 + x < m) (sym (pow-suc 256 n)) (digits_lt (value-lt n l (λ i. h (suc i))) (h 0))

pub read-lt : (s : List ℕ) (p n : ℕ) → ((i : ℕ) → get_or s i 0 < 256) → read_le s p n < 256 ^ n
unfolding read_le part
read-lt s p n h = value-lt n (drop p s) (λ i. rw get_or-drop (h (p + i)))

-- bytes are those of the number that they spell
pub bytes-value : (l : List ℕ) → ((i : ℕ) → get_or l i 0 < 256) → bytes_le (length l) (value_le l) ≡ l
unfolding bytes_le value_le
bytes-value [] h = refl
bytes-value (x ∷ l) h =
    ap (λ (b : ℕ). b ∷ bytes_le (length l) ((value_le l * 256 + x) / 256)) (digits_mod (value_le l) (h 0))
    ∙ ap (λ (n : ℕ). x ∷ bytes_le (length l) n) (digits_div (value_le l) (h 0))
    ∙ ap (λ (r : List ℕ). x ∷ r) (bytes-value l (λ i. h (suc i)))

-- and so are the bytes of a list from a place on
take-bytes : (n : ℕ) (l : List ℕ) → ((i : ℕ) → get_or l i 0 < 256) → (i : ℕ) → get_or (take n l) i 0 < 256
take-bytes zero l h i = omega arith
take-bytes (suc n) [] h i = omega arith
take-bytes (suc n) (x ∷ l) h zero = h 0
take-bytes (suc n) (x ∷ l) h (suc i) = take-bytes n l (λ j. h (suc j)) i

pub bytes_read : (s : List ℕ) (p n : ℕ) → ((i : ℕ) → get_or s i 0 < 256) → p + n ≤ length s → bytes_le n (read_le s p n) ≡ part s p n
unfolding read_le part
bytes_read s p n h k =
    ap (λ (w : ℕ). bytes_le w (read_le s p n)) (sym (length_part s p n k))
    ∙ bytes-value (part s p n) (take-bytes n (drop p s) (λ i. rw get_or-drop (h (p + i))))

-- ---- reading after a store

pub read_same : (s : List ℕ) (p w v : ℕ) → p + w ≤ length s → read_le (splice s p (bytes_le w v)) p w ≡ v % 256 ^ w
unfolding read_le
read_same s p w v h =
    ap (λ (n : ℕ). value_le (part (splice s p (bytes_le w v)) p n)) (sym (length-bytes_le w v))
    ∙ ap value_le (part-splice-same s p (bytes_le w v) (simp length-bytes_le h))
    ∙ value-bytes w v

pub read_below : (s : List ℕ) (p : ℕ) (ys : List ℕ) (q n : ℕ) → q + n ≤ p → read_le (splice s p ys) q n ≡ read_le s q n
unfolding read_le
read_below s p ys q n h = ap value_le (part-splice-below s p ys q n h)

-- fewer than eight bytes and one more fit 64 bits
pub read_fits : (s : List ℕ) (p n b : ℕ) → ((i : ℕ) → Fits w8 (get_or s i 0)) → n < 8 → b < 256 → Fits w64 (read_le s p n * 256 + b)
read_fits s p n b h l k = record {
  fits =
      lt_of_lt_of_le
      (subst (λ (m : ℕ). read_le s p n * 256 + b < m) (sym (pow-suc 256 n)) (digits_lt (read-lt s p n (λ i. (h i).fits)) k))
      (pow-le-pow_right (lit< tt) {j = 8} l);
}

-- ---- reading one byte more, whatever the length

pub read-suc : (s : List ℕ) (p n : ℕ) → read_le s p (suc n) ≡ read_le s (suc p) n * 256 + get_or s p 0
unfolding read_le part value_le
read-suc [] p n = simp (drop-nil, take-nil)
read-suc (x ∷ s) zero n = refl
read-suc (x ∷ s) (suc p) n = read-suc s p n

read_none : (s : List ℕ) (p : ℕ) → read_le s p 0 ≡ 0
unfolding read_le part value_le
read_none s p = refl

pub read_byte_lem : (s : List ℕ) (p : ℕ) → read_le s p 1 ≡ get_or s p 0
read_byte_lem s p = read-suc s p 0 ∙ rw (read_none s (suc p)) (omega arith)

pub read_word : (s : List ℕ) (p : ℕ) → read_le s p 2 ≡ get_or s p 0 + 256 * get_or s (p + 1) 0
read_word s p =
    let a : read_le s p 2 ≡ read_le s (suc p) 1 * 256 + get_or s p 0 = read-suc s p 1 in
    let b : read_le s (suc p) 1 ≡ get_or s (p + 1) 0 = read_byte_lem s (suc p) ∙ ap (λ (k : ℕ). get_or s k 0) (sym (add-one p)) in
    omega arith

-- past the end
pub read-beyond : (s : List ℕ) (p n : ℕ) → length s ≤ p → read_le s p n ≡ 0
unfolding read_le part value_le
read-beyond [] p n h = simp (drop-nil, take-nil)
read-beyond (x ∷ s) zero n h = absurd (not-suc-le-zero h)
read-beyond (x ∷ s) (suc p) n h = read-beyond s p n (le_of_suc-le-suc h)
