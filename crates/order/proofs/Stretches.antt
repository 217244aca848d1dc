-- The order: steps of one core that follow one another. Assumes nothing.
use mathlib.Core.Path.{◌≡◌, sym, ap, ◌∙◌, subst}
use mathlib.Core.Bool.{true}
use mathlib.Core.List.{List}
use Prim.Native.Nat.{ℕ, zero, suc, ◌+◌, ◌≤◌, ◌<◌}
use native.Mathlib.Decide.{dec_le}
use native.Mathlib.Omega.{arith}
use borrow.Author.Tests.{ltb-true, eqb-true, lt-ltb, eq-eqb}
use lib.Dec.{ltb, eqb}
use lib.ListN.{length, get_or}
use Rattle.verdict.proofs.Verdict.{both_true}
use Rattle.protocol.specs.State.{Semaphore}
use Rattle.semaphore.specs.Line.{waits_at}
use Rattle.order.specs.Order.{steps_on, AllOn, Stretches, Waits}

-- ---- one step

pub step_in_lem : (order : List ℕ) (i k : ℕ) → steps_on order i k ≡ true → (i < length order) × (k ≡ get_or order i 0)
step_in_lem order i k e =
    let a = both_true (ltb i (length order)) (eqb (get_or order i 0) k) e in
    (ltb-true i (length order) a.0, sym (eqb-true (get_or order i 0) k a.1))

pub steps_on_lem : (order : List ℕ) (i k : ℕ) → i < length order → k ≡ get_or order i 0 → steps_on order i k ≡ true
steps_on_lem order i k b e = rw (lt-ltb i (length order) b, eq-eqb (get_or order i 0) k (sym e))

-- where step i is of core k and step i + m is not, there are steps between
pub first_on : (order : List ℕ) (i k m : ℕ) → (get_or order (i + m) 0 ≡ k → ⊥) → steps_on order i k ≡ true → 0 < m
first_on order i k zero n e = let q : i + 0 ≡ i = omega arith in absurd (n (ap (λ (j : ℕ). get_or order j 0) q ∙ sym (step_in_lem order i k e).1))
first_on order i k (suc m) n e = omega arith

-- ---- several steps

pub all_none : (order : List ℕ) (k i : ℕ) → AllOn order k i 0
all_none order k i j a b = absurd (let z : ⊥ = omega arith in z)

pub all_more : (order : List ℕ) (k i m n : ℕ) → AllOn order k i m → AllOn order k (i + m) n → AllOn order k i (m + n)
all_more order k i m n u v j a b = go (dec_le (suc j) (i + m))
  where
    go : Dec (j < i + m) → get_or order j 0 ≡ k
    go (yes h) = u j a h
    go (no h) = v j (omega (arith, h)) (omega arith)

pub all_one : (order : List ℕ) (k i : ℕ) → get_or order i 0 ≡ k → AllOn order k i 1
all_one order k i e j a b = let q : j ≡ i = omega arith in ap (λ (x : ℕ). get_or order x 0) q ∙ e

-- a step of a stretch
pub on-stretch : {order : List ℕ} {from most k m i : ℕ} → Stretches order from most k m → from ≤ i → i < from + m → steps_on order i k ≡ true
on-stretch {order} {from} {most} {k} {m} {i} s l h = steps_on_lem order i k (omega (arith, s.within)) (sym (s.all i l h))

-- ---- steps of cores that wait

pub waits-none : (order : List ℕ) (h : Semaphore) (i : ℕ) → Waits order h i i
waits-none order h i m a b = absurd (let z : ⊥ = omega arith in z)

pub waits-on : (order : List ℕ) (h : Semaphore) {i j : ℕ} → i ≤ j → Waits order h i j → waits_at h (get_or order j 0) ≡ true → Waits order h i (j + 1)
waits-on order h {i} {j} l w e m a b = go (dec_le (suc m) j)
  where
    go : Dec (m < j) → waits_at h (get_or order m 0) ≡ true
    go (yes u) = w m a u
    go (no u) = let q : j ≡ m = omega (arith, u) in subst (λ (n : ℕ). waits_at h (get_or order n 0) ≡ true) q e
