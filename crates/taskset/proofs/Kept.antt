-- Judgements of a file and of a longer one that begins with it: the same, or the shorter is cut. In order: two judgements; items one after another.
-- Not here: the judgements of a task set file (`Transit`). Assumes nothing.
use mathlib.Core.Path.{◌≡◌, refl, sym, ◌∙◌}
use Prim.Native.Nat.{ℕ, zero, suc, ◌+◌, ◌-◌, ◌≤◌, ◌<◌}
use native.Mathlib.Omega.{arith}
use Rattle.verdict.specs.Verdict.{next, first}
use Rattle.verdict.proofs.Verdict.{next-zero}

pub data Kept (a b : ℕ) : Type 0 where
  alike : a ≡ b → Kept a b
  cut : a ≡ 1 → Kept a b

pub kept_next : (a c : ℕ) {b d : ℕ} → Kept a c → (a ≡ 0 → Kept b d) → Kept (next a b) (next c d)
unfolding next
kept_next zero zero h k = k refl
kept_next zero (suc c) (alike e) k = absurd (let y : ⊥ = omega arith in y)
kept_next zero (suc c) (cut e) k = absurd (let y : ⊥ = omega arith in y)
kept_next (suc a) zero (alike e) k = absurd (let y : ⊥ = omega arith in y)
kept_next (suc a) (suc c) (alike e) k = alike e
kept_next (suc a) c (cut e) k = cut e

pub kept-none : {a c : ℕ} → Kept a c → a ≡ 0 → c ≡ 0
kept-none (alike e) z = sym e ∙ z
kept-none (cut e) z = absurd (let y : ⊥ = omega arith in y)

pub ap-kept : (h : ℕ → ℕ) {a p q : ℕ} → p ≡ q → Kept a (h p) → Kept a (h q)
ap-kept h e k = rw e at k

-- items one after another, where each that is none carries P to the next
module _ (g h : ℕ → ℕ) (P : ℕ → Type 0) (n : ℕ)
    (same : (j : ℕ) → j < n → P j → Kept (g j) (h j)) (more : (j : ℕ) → j < n → P j → g j ≡ 0 → P (j + 1)) where
  kept_from : (k i : ℕ) → i + k ≡ n → P i → Kept (first g k i) (first h k i)
  unfolding first
  kept_from zero i e p = alike refl
  kept_from (suc k) i e p =
      kept_next (g i) (h i) (same i (omega arith) p) (λ z. kept_from k (i + 1) (omega arith) (more i (omega arith) p z))

  carried_from : (k i : ℕ) → i + k ≡ n → P i → first g k i ≡ 0 → P n
  unfolding first
  carried_from zero i e p z = rw (let q : n ≡ i = omega arith in q) p
  carried_from (suc k) i e p z =
      let y = next-zero (g i) _ z in
      carried_from k (i + 1) (omega arith) (more i (omega arith) p y.0) y.1

  pub kept-each : P 0 → Kept (first g (n - 0) 0) (first h (n - 0) 0)
  kept-each p = kept_from (n - 0) 0 (omega arith) p

  pub carried : P 0 → first g (n - 0) 0 ≡ 0 → P n
  carried p z = carried_from (n - 0) 0 (omega arith) p z

pub same_from : (g h : ℕ → ℕ) (k i : ℕ) → ((j : ℕ) → i ≤ j → j < i + k → g j ≡ h j) → first g k i ≡ first h k i
unfolding first
same_from g h zero i e = refl
same_from g h (suc k) i e = rw (e i (omega arith) (omega arith), same_from g h k (i + 1) (λ j a b. e j (omega arith) (omega arith)))
