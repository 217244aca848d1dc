-- What a command stores fits the bytes of its result, so that reading it back gives it. `Held w v`: w bytes hold the value v. A value that is
-- read is held by its type's bytes, each command keeps that, and the pattern of a value that is held is below 256 ^ w. Assumes nothing.
use Rattle.std.proofs.Common.{◌≡◌, ℕ, zero, suc, ◌+◌, ◌*◌, ◌^◌, ◌<◌, ◌≤◌, Bool, true, false, T, eqb, List, length, ℤ, sym, refl, ap, ◌∙◌, subst, lt_of_lt_of_le, mod-lt, mod-eq_of_lt, pow-suc, arith, pow_pos, pow_mono, pow-add, eqb-true}
use native.Mathlib.Nat.{pow-zero}
use lib.Ieee as Ieee
use lib.Ieee.{Float, Format, binary32, binary64}
use lib.Ieee.Bits.{to_bits-lt, of_bits-fits}
use lib.Ieee.Fits.{add-fits, sub-fits, mul-fits, div-fits}
use borrow.Author.Tests.{eqb-false}
use Rattle.verdict.specs.Verdict.{within}
use Rattle.verdict.proofs.Verdict.{by-pick, pick_true, pick-false}
use Rattle.memory.specs.Memory.{read_le}
use Rattle.memory.proofs.Number.{read_same}
use Rattle.values.specs.Types.{width_of, takes}
use Rattle.values.specs.Values.{typed, pattern_of, stored}
use Rattle.values.specs.Commands.{on_kinds, on_bits, ADD, SUB, MUL, DIV, MOD, AND, OR, XOR, NOT, SHL, SHR, ROL, ROR, result, result_type, result_width, second_width, command, performed}
use Rattle.values.specs.declared.Value.{Value}
use Rattle.values.specs.declared.Value.TheVariants.{Bool as VBool, Signed, Unsigned, Real, Lreal}
use Rattle.values.proofs.Widths.{pattern_lt}
use Rattle.values.proofs.Types.{each-type}
use Rattle.values.proofs.Commands.{taken-type, last_code}

unfoldable Held : ℕ → Value → Type 0
Held w (VBool x) = 0 < w
Held w (Signed z) = 0 < w
Held w (Unsigned n) = 0 < w
Held w (Real x) = (4 ≤ w) × T (Ieee.fits binary32 x)
Held w (Lreal x) = (8 ≤ w) × T (Ieee.fits binary64 x)

-- ---- a value that is held

bits-le : (w k : ℕ) → k ≤ w → 2 ^ (8 * k) ≤ 2 ^ (8 * w)
bits-le w k h = let e : 8 * k ≤ 8 * w = omega arith in pow_mono e

pattern-of-lt : (w : ℕ) (v : Value) → Held w v → pattern_of w v < 2 ^ (8 * w)
unfolding Held pattern_of
pattern-of-lt w (VBool true) h = let l : 2 ^ (8 * 1) ≤ 2 ^ (8 * w) = bits-le w 1 h in omega arith
pattern-of-lt w (VBool false) h = pow_pos (8 * w)
pattern-of-lt w (Signed z) h = pattern_lt (8 * w) z
pattern-of-lt w (Unsigned n) h = mod-lt n (pow_pos (8 * w))
pattern-of-lt w (Real x) h = lt_of_lt_of_le (to_bits-lt binary32 x h.1) (bits-le w 4 h.0)
pattern-of-lt w (Lreal x) h = lt_of_lt_of_le (to_bits-lt binary64 x h.1) (bits-le w 8 h.0)

typed-held : (p t : ℕ) → t < 12 → Held (width_of t) (typed t p)
unfolding Held width_of typed
typed-held p =
    each-type (λ (t : ℕ). Held (width_of t) (typed t p)) (omega arith) (omega arith) (omega arith) (omega arith) (omega arith) (omega arith) (omega arith)
    (omega arith) (omega arith) (omega arith, of_bits-fits binary32 p) (omega arith, of_bits-fits binary64 p) (omega arith)

-- ---- each command keeps it

module _ (f : Bool → Bool → Bool) (g : ℤ → ℤ → ℤ) (h : ℕ → ℕ → ℕ) (k : Format → Float → Float → Float)
    (fit : (m : Format) (x y : Float) → T (Ieee.fits m x) → T (Ieee.fits m (k m x y))) where
  kinds-held : (w : ℕ) (a b : Value) → Held w a → Held w (on_kinds f g h k a b)
  unfolding Held on_kinds
  kinds-held w (VBool x) b l = l
  kinds-held w (Signed x) b l = l
  kinds-held w (Unsigned x) b l = l
  kinds-held w (Real x) b l = (l.0, fit binary32 x _ l.1)
  kinds-held w (Lreal x) b l = (l.0, fit binary64 x _ l.1)

bits-held : (f : Bool → Bool) (h : ℕ → ℕ) (w : ℕ) (a : Value) → Held w a → Held w (on_bits f h a)
unfolding Held on_bits
bits-held f h w (VBool x) l = l
bits-held f h w (Signed x) l = l
bits-held f h w (Unsigned x) l = l
bits-held f h w (Real x) l = l
bits-held f h w (Lreal x) l = l

-- the result is one of the table's, each at its own code byte
module _ (code t : ℕ) where
  own : (c : ℕ) (v : Value) → within 32 37 c ≡ false → Held (width_of t) v → eqb code c ≡ true → Held (result_width code t) v
  unfolding result_width result_type
  own c v f h e =
      subst (λ (m : ℕ). Held (result_width m t) v) (sym (eqb-true code c e))
      (subst (λ (m : ℕ). Held (width_of m) v) (sym (pick-false (within 32 37 c) 0 t f)) h)

  truth : (c : ℕ) (x : Bool) → within 32 37 c ≡ true → eqb code c ≡ true → Held (result_width code t) (VBool x)
  unfolding Held result_width result_type width_of
  truth c x f e =
      let h : 0 < width_of 0 = omega arith in
      subst (λ (m : ℕ). 0 < result_width m t) (sym (eqb-true code c e)) (subst (λ (m : ℕ). 0 < width_of m) (sym (pick_true (within 32 37 c) 0 t f)) h)

module _ (code t : ℕ) (a b : Value) (n : ℕ) (k : takes code t ≡ true) (l : Held (width_of t) a) where
  result-held : Held (result_width code t) (result code (width_of t) a b n)
  unfolding result ADD SUB MUL DIV MOD AND OR XOR NOT SHL SHR ROL ROR
  result-held =
      let w = width_of t in
      let H : (Value → Type 0) = λ v. Held (result_width code t) v in
      by-pick H (eqb code 16) _ _ (own code t 16 _ refl (kinds-held _ _ _ _ (λ m x y e. add-fits m x y) w a b l))
      (λ n16. by-pick H (eqb code 17) _ _ (own code t 17 _ refl (kinds-held _ _ _ _ (λ m x y e. sub-fits m x y) w a b l))
      (λ n17. by-pick H (eqb code 18) _ _ (own code t 18 _ refl (kinds-held _ _ _ _ (λ m x y e. mul-fits m x y) w a b l))
      (λ n18. by-pick H (eqb code 19) _ _ (own code t 19 _ refl (kinds-held _ _ _ _ (λ m x y e. div-fits m x y) w a b l))
      (λ n19. by-pick H (eqb code 20) _ _ (own code t 20 _ refl (kinds-held _ _ _ _ (λ m x y e. e) w a b l))
      (λ n20. by-pick H (eqb code 24) _ _ (own code t 24 _ refl (kinds-held _ _ _ _ (λ m x y e. e) w a b l))
      (λ n24. by-pick H (eqb code 25) _ _ (own code t 25 _ refl (kinds-held _ _ _ _ (λ m x y e. e) w a b l))
      (λ n25. by-pick H (eqb code 26) _ _ (own code t 26 _ refl (kinds-held _ _ _ _ (λ m x y e. e) w a b l))
      (λ n26. by-pick H (eqb code 27) _ _ (own code t 27 _ refl (bits-held _ _ w a l))
      (λ n27. by-pick H (eqb code 28) _ _ (own code t 28 _ refl (bits-held _ _ w a l))
      (λ n28. by-pick H (eqb code 29) _ _ (own code t 29 _ refl (bits-held _ _ w a l))
      (λ n29. by-pick H (eqb code 30) _ _ (own code t 30 _ refl (bits-held _ _ w a l))
      (λ n30. by-pick H (eqb code 31) _ _ (own code t 31 _ refl (bits-held _ _ w a l))
      (λ n31. by-pick H (eqb code 32) _ _ (truth code t 32 _ refl)
      (λ n32. by-pick H (eqb code 33) _ _ (truth code t 33 _ refl)
      (λ n33. by-pick H (eqb code 34) _ _ (truth code t 34 _ refl)
      (λ n34. by-pick H (eqb code 35) _ _ (truth code t 35 _ refl)
      (λ n35. by-pick H (eqb code 36) _ _ (truth code t 36 _ refl)
      (λ n36. by-pick H (eqb code 37) _ _ (truth code t 37 _ refl)
      (λ n37. absurd (eqb-false code 37 n37 (last_code code t k
      (eqb-false code 16 n16) (eqb-false code 17 n17) (eqb-false code 18 n18) (eqb-false code 19 n19) (eqb-false code 20 n20)
      (eqb-false code 24 n24) (eqb-false code 25 n25) (eqb-false code 26 n26) (eqb-false code 27 n27) (eqb-false code 28 n28) (eqb-false code 29 n29) (eqb-false code 30 n30) (eqb-false code 31 n31)
      (eqb-false code 32 n32) (eqb-false code 33 n33) (eqb-false code 34 n34) (eqb-false code 35 n35) (eqb-false code 36 n36))))))))))))))))))))))

-- ---- the bound

bytes_bits : (w : ℕ) → 256 ^ w ≡ 2 ^ (8 * w)
bytes_bits zero = pow-zero 256 ∙ sym (pow-zero 2)
bytes_bits (suc w) =
    let e : 8 * suc w ≡ 8 * w + 8 = omega arith in
    pow-suc 256 w ∙ ap (λ (m : ℕ). m * 256) (bytes_bits w) ∙ sym (ap (λ (m : ℕ). 2 ^ m) e ∙ pow-add 2 (8 * w) 8)

pub command-lt : (code t p q : ℕ) → takes code t ≡ true → command code t p q < 256 ^ result_width code t
unfolding command stored result_width
command-lt code t p q k =
    subst (λ (m : ℕ). command code t p q < m) (sym (bytes_bits (result_width code t)))
    (pattern-of-lt (result_width code t) _ (result-held code t (typed t p) (typed t q) q k (typed-held p t (taken-type code t k))))

-- the result, read back where it was written
pub performed-read : (code t : ℕ) (s : List ℕ) (to a b : ℕ) → takes code t ≡ true → to + result_width code t ≤ length s
    → read_le (performed code t s to a b) to (result_width code t) ≡ command code t (read_le s a (width_of t)) (read_le s b (second_width code t))
unfolding performed
performed-read code t s to a b k h =
    read_same s to (result_width code t) (command code t (read_le s a (width_of t)) (read_le s b (second_width code t))) h
    ∙ mod-eq_of_lt (command-lt code t (read_le s a (width_of t)) (read_le s b (second_width code t)) k)
