-- Laws of a command on memory, over the code byte. In order: types and widths; divisors; the test for a zero divisor; the code byte that a `match` found. Assumes nothing.
use Rattle.std.proofs.Common.{◌≡◌, ℕ, suc, ◌-◌, ◌^◌, ◌<◌, ◌≤◌, Bool, true, false, eqb, ltb, List, [], ◌∷◌, ℤ, pos, negsuc, sym, refl, ap, ◌∙◌, subst, arith, ltb-false, ltb-true, eqb-true, leb-true}
use lib.ListN.{get_or-eq_default}
use Rattle.verdict.specs.Verdict.{pick, both, within}
use Rattle.verdict.proofs.Verdict.{absurd-bool, by-pick, both_true, inside, inside-true}
use Rattle.memory.specs.Memory.{read_le}
use Rattle.values.specs.Types.{width_of, takes}
use Rattle.values.specs.Width.{signed, eq_z}
use Rattle.values.specs.Values.{typed}
use Rattle.values.specs.Commands.{second_width, zero_divisor, by_zero}
use Rattle.values.proofs.Widths.{width-le}
use Rattle.values.proofs.Types.{each-type, width-ok, past}

-- ---- types and widths

-- a type that a command takes is one of the twelve
pub taken-type : (code t : ℕ) → takes code t ≡ true → t < 12
unfolding takes
taken-type code t =
    by-pick (λ (x : Bool). x ≡ true → t < 12) (within 16 17 code) _ _ (λ c e. omega (arith, (inside-true 1 11 t e).1))
    (λ c. by-pick (λ (x : Bool). x ≡ true → t < 12) (within 18 19 code) _ _ (λ c e. omega (arith, (inside-true 1 10 t e).1))
    (λ c. by-pick (λ (x : Bool). x ≡ true → t < 12) (eqb code 20) _ _ (λ c e. omega (arith, (inside-true 1 8 t e).1))
    (λ c. by-pick (λ (x : Bool). x ≡ true → t < 12) (within 24 27 code) _ _ (λ c e. omega (arith, leb-true t 8 (both_true _ _ e).0))
    (λ c. by-pick (λ (x : Bool). x ≡ true → t < 12) (within 28 31 code) _ _ (λ c e. omega (arith, (inside-true 2 8 t (both_true _ _ e).0).1))
    (λ c. by-pick (λ (x : Bool). x ≡ true → t < 12) (within 32 37 code) _ _ (λ c e. omega (arith, leb-true t 11 e)) (λ c e. absurd-bool e))))))

pub width_room : (t : ℕ) → width_of t ≤ 8
unfolding width_of
width_room t = go (ltb t 12) refl
  where
    go : (b : Bool) → ltb t 12 ≡ b → width_of t ≤ 8
    go true e = width-le (width-ok t (ltb-true t 12 e))
    go false e = subst (λ (n : ℕ). n ≤ 8) (sym (get_or-eq_default (1 ∷ 1 ∷ 1 ∷ 2 ∷ 2 ∷ 4 ∷ 4 ∷ 8 ∷ 8 ∷ 4 ∷ 8 ∷ 4 ∷ []) 0 (ltb-false t 12 e))) (omega arith)

-- ---- a divisor of a whole-number type is not zero

signed-zero : (b q : ℕ) → eqb q 0 ≡ false → eq_z (signed b q) (pos 0) ≡ false
unfolding signed
signed-zero b q h = by-pick (λ (z : ℤ). eq_z z (pos 0) ≡ false) (ltb q (2 ^ (b - 1))) (pos q) (negsuc (2 ^ b - suc q)) (λ e. h) (λ e. refl)

pub by_zero_lem : (p q t : ℕ) → t < 12 → (t ≡ 11 → ⊥) → both (within 1 8 t) (eqb q 0) ≡ false → by_zero (typed t p) (typed t q) ≡ false
unfolding typed by_zero
by_zero_lem p q =
    each-type (λ (t : ℕ). (t ≡ 11 → ⊥) → both (within 1 8 t) (eqb q 0) ≡ false → by_zero (typed t p) (typed t q) ≡ false)
    (λ d h. refl) (λ d h. signed-zero 8 q h) (λ d h. h) (λ d h. signed-zero 16 q h) (λ d h. h) (λ d h. signed-zero 32 q h) (λ d h. h)
    (λ d h. signed-zero 64 q h) (λ d h. h) (λ d h. refl) (λ d h. refl) (λ d h. absurd (d refl))

-- ---- the test for a zero divisor

module _ (t w : ℕ) (e : w ≡ width_of t) where
  second-whole : second_width 19 t ≡ w
  unfolding second_width pick
  second-whole = sym e

  pub zero-inside : (s : List ℕ) (b p : ℕ) → 1 ≤ t → t ≤ 8 → p ≡ read_le s b w → eqb p 0 ≡ zero_divisor 19 t (read_le s b (second_width 19 t))
  unfolding zero_divisor
  zero-inside s b p i j f =
      ap (λ (q : ℕ). eqb q 0) (f ∙ ap (read_le s b) (sym second-whole))
      ∙ sym
      (ap (λ (c : Bool). both c (eqb (read_le s b (second_width 19 t)) 0)) (inside 1 8 t i j))

-- ---- the code byte that a `match` found

exactly : {n k : ℕ} → n ≤ k → k ≤ n → n ≡ k
exactly h d = omega arith

beyond : {n k : ℕ} → suc k ≤ n → n ≤ k → ⊥
beyond h d = omega arith

-- the last of them: none of those before it
pub last_code : (code t : ℕ) → takes code t ≡ true
    → (code ≡ 16 → ⊥) → (code ≡ 17 → ⊥) → (code ≡ 18 → ⊥) → (code ≡ 19 → ⊥) → (code ≡ 20 → ⊥)
    → (code ≡ 24 → ⊥) → (code ≡ 25 → ⊥) → (code ≡ 26 → ⊥) → (code ≡ 27 → ⊥)
    → (code ≡ 28 → ⊥) → (code ≡ 29 → ⊥) → (code ≡ 30 → ⊥) → (code ≡ 31 → ⊥)
    → (code ≡ 32 → ⊥) → (code ≡ 33 → ⊥) → (code ≡ 34 → ⊥) → (code ≡ 35 → ⊥) → (code ≡ 36 → ⊥) → code ≡ 37
unfolding takes
last_code code t h n16 n17 n18 n19 n20 n24 n25 n26 n27 n28 n29 n30 n31 n32 n33 n34 n35 n36 =
    by-pick (λ (x : Bool). x ≡ true → code ≡ 37) (within 16 17 code) _ _
    (λ c e. let i = inside-true 16 17 code c in absurd (beyond (past (past i.0 n16) n17) i.1))
    (λ c. by-pick (λ (x : Bool). x ≡ true → code ≡ 37) (within 18 19 code) _ _
    (λ c e. let i = inside-true 18 19 code c in absurd (beyond (past (past i.0 n18) n19) i.1))
    (λ c. by-pick (λ (x : Bool). x ≡ true → code ≡ 37) (eqb code 20) _ _
    (λ c e. absurd (n20 (eqb-true code 20 c)))
    (λ c. by-pick (λ (x : Bool). x ≡ true → code ≡ 37) (within 24 27 code) _ _
    (λ c e. let i = inside-true 24 27 code c in absurd (beyond (past (past (past (past i.0 n24) n25) n26) n27) i.1))
    (λ c. by-pick (λ (x : Bool). x ≡ true → code ≡ 37) (within 28 31 code) _ _
    (λ c e. let i = inside-true 28 31 code c in absurd (beyond (past (past (past (past i.0 n28) n29) n30) n31) i.1))
    (λ c. by-pick (λ (x : Bool). x ≡ true → code ≡ 37) (within 32 37 code) _ _
    (λ c e. let i = inside-true 32 37 code c in exactly i.1 (past (past (past (past (past i.0 n32) n33) n34) n35) n36))
    (λ c e. absurd-bool e)))))) h
