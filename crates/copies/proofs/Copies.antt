-- What the test of two stretches says, and what follows for the answer and the data: once for every way of copying. Assumes nothing.
use mathlib.Core.Path.{◌≡◌, refl, sym, ◌∙◌}
use mathlib.Core.Bool.{Bool, true, false}
use mathlib.Core.List.{List}
use Prim.Native.Nat.{ℕ, ◌+◌, ◌-◌, ◌≤◌, ◌<◌}
use native.Mathlib.Omega.{arith}
use lib.ListN.{length}
use lib.Dec.{leb}
use borrow.Author.Tests.{leb-true, leb-false, le-leb, lt-leb}
use Rattle.verdict.proofs.Verdict.{both_true, pick_true, pick-false}
use Rattle.verdict.proofs.Truth.{both-skip, both-stop}
use Rattle.memory.specs.Memory.{splice, part}
use Rattle.copies.specs.Copies.{copy_fits, copy_answer, copied}

-- a place as far from the end as the count is one whose stretch ends within, tested without a sum
pub before-end : (a n size : ℕ) → n ≤ size → leb a (size - n) ≡ leb (a + n) size
before-end a n size h = go (leb a (size - n)) refl
  where
    go : (b : Bool) → leb a (size - n) ≡ b → leb a (size - n) ≡ leb (a + n) size
    go true e = e ∙ sym (le-leb (a + n) size (omega (arith, leb-true a (size - n) e)))
    go false e = e ∙ sym (lt-leb (a + n) size (omega (arith, leb-false a (size - n) e)))

-- the four ways through the test
module _ (size to from n : ℕ) where
  pub too_many : 4096 < n → false ≡ copy_fits size to from n
  unfolding copy_fits
  too_many a = both-stop _ (lt-leb n 4096 a)

  pub too_long_lem : n ≤ 4096 → size < to + n → false ≡ copy_fits size to from n
  unfolding copy_fits
  too_long_lem a b = both-skip (le-leb n 4096 a) (both-stop _ (lt-leb (to + n) size b))

  pub by-source : n ≤ 4096 → to + n ≤ size → leb from (size - n) ≡ copy_fits size to from n
  unfolding copy_fits
  by-source a b = both-skip (le-leb n 4096 a) (both-skip (le-leb (to + n) size b) (before-end from n size (omega arith)))

-- both stretches lie within the data
pub fitting : (size to from n : ℕ) → copy_fits size to from n ≡ true → (to + n ≤ size) × (from + n ≤ size) × (n ≤ 4096)
unfolding copy_fits
fitting size to from n h =
    let a = both_true (leb n 4096) _ h in
    let b = both_true (leb (to + n) size) _ a.1 in
    (leb-true _ _ b.0, leb-true _ _ b.1, leb-true _ _ a.0)

-- where they do not, the answer is 1 and the data stay
pub unfit : (d : List ℕ) (to from n : ℕ) → copy_fits (length d) to from n ≡ false → (1 ≡ copy_answer (length d) to from n) × (d ≡ copied d to from n)
unfolding copy_answer copied
unfit d to from n h = (sym (pick-false _ 0 1 h), sym (pick-false _ _ d h))

-- where they do, the answer is 0 and the data are with the copy
pub fit : (d e : List ℕ) (to from n : ℕ) → copy_fits (length d) to from n ≡ true → e ≡ splice d to (part d from n)
    → (0 ≡ copy_answer (length d) to from n) × (e ≡ copied d to from n)
unfolding copy_answer copied
fit d e to from n h q = (sym (pick_true _ 0 1 h), q ∙ sym (pick_true _ (splice d to (part d from n)) d h))
