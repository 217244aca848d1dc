-- A number in base ten: its last digit after the digits of a tenth of it. A number of n digits is below 10 ^ n, so that n digits are enough.
-- Assumes nothing.
use mathlib.Core.Path.{◌≡◌, refl, sym, ap, ◌∙◌}
use mathlib.Core.Bool.{Bool, true, false}
use mathlib.Core.List.{List, [], ◌∷◌, ◌++◌}
use Prim.Native.Nat.{ℕ, zero, suc, ◌+◌, ◌/◌, ◌%◌, ◌^◌, ◌≤◌, ◌<◌}
use native.Mathlib.Nat.{pow-suc}
use native.Mathlib.Omega.{arith}
use borrow.Author.Tests.{lt-ltb, le-ltb, ltb-true, ltb-false}
use lib.Dec.{ltb}
use lib.ListN.{length, length-append}
use Rattle.verdict.proofs.Verdict.{pick_true, pick-false}
use Rattle.memory.specs.Memory.{splice}
use Rattle.listing.specs.Listing.{digit, digits, decimal}
use Rattle.listing.proofs.Writing.{writing_start, writing_more, writing-last}

digits-small : (n v : ℕ) → v < 10 → digits (suc n) v ≡ digit v ∷ []
unfolding digits
digits-small n v h = pick_true _ _ _ (lt-ltb v 10 h)

digits-large : (n v : ℕ) → 10 ≤ v → digits (suc n) v ≡ digits n (v / 10) ++ (digit (v % 10) ∷ [])
unfolding digits
digits-large n v h = pick-false _ _ _ (le-ltb v 10 h)

-- more digits than enough change nothing
enough : (n m v : ℕ) → v < n → v < m → digits n v ≡ digits m v
enough zero m v h k = absurd (let z : ⊥ = omega arith in z)
enough (suc n) zero v h k = absurd (let z : ⊥ = omega arith in z)
enough (suc n) (suc m) v h k = go (λ a b. enough n m (v / 10) a b) (ltb v 10) refl
  where
    go : (v / 10 < n → v / 10 < m → digits n (v / 10) ≡ digits m (v / 10)) → (b : Bool) → ltb v 10 ≡ b → digits (suc n) v ≡ digits (suc m) v
    go same true e = digits-small n v (ltb-true v 10 e) ∙ sym (digits-small m v (ltb-true v 10 e))
    go same false e =
        let l : 10 ≤ v = ltb-false v 10 e in
        digits-large n v l ∙ ap (λ (x : List ℕ). x ++ (digit (v % 10) ∷ [])) (same (omega arith) (omega arith)) ∙ sym (digits-large m v l)

pub decimal-small : (v : ℕ) → v < 10 → decimal v ≡ digit v ∷ []
unfolding decimal
decimal-small v h = digits-small v v h

pub decimal-large : (v : ℕ) → 10 ≤ v → decimal v ≡ decimal (v / 10) ++ (digit (v % 10) ∷ [])
unfolding decimal
decimal-large v h =
    digits-large v v h ∙ ap (λ (x : List ℕ). x ++ (digit (v % 10) ∷ [])) (enough v (suc (v / 10)) (v / 10) (omega arith) (omega arith))

-- a number below 10 ^ n has at most n digits
pub decimal-short : (n v : ℕ) → v < 10 ^ suc n → length (decimal v) ≤ suc n
decimal-short zero v h = rw (decimal-small v h) (omega arith)
decimal-short (suc n) v h = go (λ a. decimal-short n (v / 10) a) (ltb v 10) refl
  where
    go : (v / 10 < 10 ^ suc n → length (decimal (v / 10)) ≤ suc n) → (b : Bool) → ltb v 10 ≡ b → length (decimal v) ≤ suc (suc n)
    go short true e = rw (decimal-small v (ltb-true v 10 e)) (omega arith)
    go short false e =
        rw (decimal-large v (ltb-false v 10 e), length-append (decimal (v / 10)) (digit (v % 10) ∷ []))
        (omega (arith, short (omega (arith, pow-suc 10 (suc n)))))

-- ---- written

abbrev Written : List ℕ → ℕ → ℕ → List ℕ → ℕ → Type 0
Written d at v e r = (e ≡ splice d at (decimal v)) × (r ≡ at + length (decimal v)) × (r ≤ at + 5)

-- at most five digits
pub five : (v : ℕ) → v < 65536 → length (decimal v) ≤ 5
five v h = decimal-short 4 v (omega arith)

pub written_small : (d : List ℕ) (at v : ℕ) (e : List ℕ) (r : ℕ) → v < 10 → e ≡ splice d at (digit v ∷ []) → r ≡ at + 1 → Written d at v e r
written_small d at v e r h b a = rw (decimal-small v h) (b, a, omega arith)

pub written-large : (d : List ℕ) (at v : ℕ) (e : List ℕ) (p : ℕ) (f : List ℕ) (r : ℕ) → v < 65536 → 10 ≤ v
    → e ≡ splice d at (decimal (v / 10)) → p ≡ at + length (decimal (v / 10))
    → f ≡ splice e p (digit (v % 10) ∷ []) → r ≡ p + 1 → Written d at v f r
written-large d at v e p f r small h b a b' a' =
    let w = writing-last (writing_more (decimal (v / 10)) (digit (v % 10) ∷ []) (writing_start d at (decimal v)) (decimal-large v h) b a) b' a' in
    (w.0, w.1, omega (arith, w.1, five v small))
