-- What a test says. In order: one test and tests put together, both ways; the test of every number below n, and its loop; chains of tests.
-- Assumes nothing.
use mathlib.Core.Path.{◌≡◌, refl, sym, ◌∙◌}
use mathlib.Core.Logic.{◌⊎◌, inl, inr}
use mathlib.Core.Bool.{Bool, true, false, not}
use Prim.Native.Nat.{ℕ, zero, suc, ◌+◌, ◌≤◌, ◌<◌}
use native.Mathlib.Numerals.{add-one}
use native.Mathlib.Omega.{arith}
use borrow.Author.Tests.{ltb-true, leb-true, eqb-true, eqb-false, not-true, not-false, lt-ltb, le-leb, eq-eqb}
use lib.Dec.{ltb, leb, eqb}
use Rattle.verdict.specs.Verdict.{pick, both, either, within, upto}
use Rattle.verdict.proofs.Verdict.{absurd-bool, both_true}
use Rattle.states.specs.Fit.{agree}

-- ---- the test b holds exactly if P does

pub record Says (b : Bool) (P : Type 0) : Type 0 where
  pub tested : b ≡ true → P
  pub holds : P → b ≡ true

-- so P is decided
pub known : {b : Bool} {P : Type 0} → Says b P → P ⊎ (P → ⊥)
known {b = true} s = inl (s.tested refl)
known {b = false} s = inr (λ p. absurd-bool (s.holds p))

pub says-itself : (b : Bool) → Says b (b ≡ true)
says-itself b = record { tested = λ e. e; holds = λ e. e }

pub says_less : (a b : ℕ) → Says (ltb a b) (a < b)
says_less a b = record { tested = ltb-true a b; holds = lt-ltb a b }

pub says-most : (a b : ℕ) → Says (leb a b) (a ≤ b)
says-most a b = record { tested = leb-true a b; holds = le-leb a b }

pub says-equal : (a b : ℕ) → Says (eqb a b) (a ≡ b)
says-equal a b = record { tested = eqb-true a b; holds = eq-eqb a b }

-- ---- tests put together

pub says_both : {a b : Bool} {P Q : Type 0} → Says a P → Says b Q → Says (both a b) (P × Q)
says_both {a} {b} p q = record {
  tested = λ e. let x = both_true a b e in (p.tested x.0, q.tested x.1);
  holds = λ x. rw (p.holds x.0) (q.holds x.1);
}

pub says-within : (lo hi x : ℕ) → Says (within lo hi x) ((lo ≤ x) × (x ≤ hi))
says-within lo hi x = says_both (says-most lo x) (says-most x hi)

pub says-either : {a b : Bool} {P Q : Type 0} → Says a P → Says b Q → Says (either a b) (P ⊎ Q)
says-either {a = true} p q = record { tested = λ e. inl (p.tested refl); holds = λ x. refl }
says-either {a = false} {b} {P} {Q} p q = record { tested = λ e. inr (q.tested e); holds = only }
  where
    only : P ⊎ Q → b ≡ true
    only (inl x) = absurd-bool (p.holds x)
    only (inr y) = q.holds y

pub says-pick : {t a b : Bool} {S P Q : Type 0} → Says t S → Says a P → Says b Q → Says (pick t a b) ((S → P) × ((S → ⊥) → Q))
unfolding pick
says-pick {t = true} s p q = record { tested = λ e. (λ x. p.tested e, λ n. absurd (n (s.tested refl))); holds = λ x. p.holds (x.0 (s.tested refl)) }
says-pick {t = false} s p q = record { tested = λ e. (λ x. absurd-bool (s.holds x), λ n. q.tested e); holds = λ x. q.holds (x.1 (λ y. absurd-bool (s.holds y))) }

pub says-agree : {a b : Bool} {P Q : Type 0} → Says a P → Says b Q → Says (agree a b) ((P → Q) × (Q → P))
says-agree {a = true} p q = record { tested = λ e. (λ x. q.tested e, λ y. p.tested refl); holds = λ x. q.holds (x.0 (p.tested refl)) }
says-agree {a = false} {b = true} p q = record { tested = λ e. absurd-bool e; holds = λ x. p.holds (x.1 (q.tested refl)) }
says-agree {a = false} {b = false} p q = record { tested = λ e. (λ x. absurd-bool (p.holds x), λ y. absurd-bool (q.holds y)); holds = λ x. refl }

-- ---- every number below n

all-below : (P : ℕ → Type 0) (n : ℕ) → P n → ((i : ℕ) → i < n → P i) → (i : ℕ) → i < suc n → P i
all-below P n p h i l = go (eqb i n) refl
  where
    go : (b : Bool) → eqb i n ≡ b → P i
    go true e = rw (eqb-true i n e) p
    go false e =
        let q : (i ≡ n → ⊥) = eqb-false i n e in
        h i (omega arith)

pub says-upto : (f : ℕ → Bool) (P : ℕ → Type 0) (n : ℕ) → ((i : ℕ) → i < n → Says (f i) (P i)) → Says (upto f n) ((i : ℕ) → i < n → P i)
says-upto f P zero s = record { tested = λ e i l. absurd (let z : ⊥ = omega arith in z); holds = λ h. refl }
says-upto f P (suc n) s =
    let rest = says_both (s n (omega arith)) (says-upto f P n (λ i l. s i (omega arith))) in
    record {
      tested = λ e. all-below P n (rest.tested e).0 (rest.tested e).1;
      holds = λ h. rest.holds (h n (omega arith), λ i l. h i (omega arith));
    }

-- ---- a loop over the numbers below n: all before i have passed

pub record Passing (f : ℕ → Bool) (n i : ℕ) : Type 0 where
  pub inside : i ≤ n
  pub all : upto f i ≡ true

pub passing-none : (f : ℕ → Bool) (n : ℕ) → Passing f n 0
passing-none f n = record { inside = omega arith; all = refl }

pub passing-more : (f : ℕ → Bool) (n i : ℕ) → Passing f n i → i < n → f i ≡ true → Passing f n (i + 1)
passing-more f n i r h e = record { inside = omega arith; all = rw (add-one i, e) r.all }

pub passing-stop : (f : ℕ → Bool) (n i : ℕ) → Passing f n i → i < n → f i ≡ false → false ≡ upto f n
passing-stop f n i r l h = go (upto f n) refl
  where
    go : (b : Bool) → upto f n ≡ b → false ≡ upto f n
    go false e = sym e
    go true e = absurd-bool (let x = (says-upto f (λ j. f j ≡ true) n (λ j k. says-itself (f j))).tested e i l in rw h at x)

pub passing-end : (f : ℕ → Bool) (n i : ℕ) → Passing f n i → n ≤ i → true ≡ upto f n
passing-end f n i r h = let e : i ≡ n = omega (arith, r.inside) in sym (rw e at r.all)

-- ---- a chain of tests: the first that fails, and one passed

pub fails : {a : Bool} (b : Bool) → a ≡ false → false ≡ both a b
fails b e = rw e

pub passes : {a b r : Bool} → a ≡ true → r ≡ b → r ≡ both a b
passes e h = rw e h

-- the same of a test that a call answers
pub rejects : {a x : Bool} (b : Bool) → x ≡ a → not x ≡ true → false ≡ both a b
rejects b e h = fails b (sym e ∙ not-true _ h)

pub admits : {a b r x : Bool} → x ≡ a → not x ≡ false → r ≡ b → r ≡ both a b
admits e h = passes (sym e ∙ not-false _ h)

-- neither
pub agree-not : (b : Bool) → not b ≡ agree false b
agree-not true = refl
agree-not false = refl
