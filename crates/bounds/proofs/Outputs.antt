-- The answer in lent places. In order: the refusal; numbers stored at the front of a lent list; what the call leaves.
-- Not here: the answer by value (proofs/Answer). Assumes nothing.
use mathlib.Core.Path.{◌≡◌, refl, sym, ap, ◌∙◌}
use mathlib.Core.List.{List, [], ◌∷◌}
use Prim.Native.Nat.{ℕ, ◌+◌, ◌≤◌, ◌<◌}
use native.Mathlib.Omega.{arith}
use borrow.Author.Tests.{le-leb, leb-true, eq-eqb, ne_eqb}
use lib.ListN.{length, get_or, set}
use Rattle.verdict.proofs.Verdict.{pick_true, pick-false, skip, stop, yes, no, next-zero, unless-zero, both_true, both-not}
use Rattle.verdict.proofs.Truth.{both-skip}
use Rattle.memory.specs.Memory.{splice, part}
use Rattle.memory.proofs.Laws.{length_part, splice-snoc}
use Rattle.memory.proofs.Turns.{part-snoc}
use Rattle.taskset.proofs.Exact.{keeps-rules}
use Rattle.bounds.specs.Bounds.{Takes, takes_of}
use Rattle.bounds.specs.Outputs.{output_refusal, outputs, takes_lent}
use Rattle.bounds.proofs.Answer.{file-accepted, answer-is}

-- ---- the refusal

module _ (x : Takes) (lengths counts depths : ℕ) where
  pub own_first : (x.refusal ≡ 0 → ⊥) → x.refusal ≡ output_refusal x lengths counts depths
  unfolding output_refusal
  own_first n = stop _ refl n

  pub too_short : x.refusal ≡ 0 → (3 ≤ lengths → x.table ≤ counts → x.table ≤ depths → ⊥) → 21 ≡ output_refusal x lengths counts depths
  unfolding output_refusal
  too_short z n =
      skip z (sym (no _ 21 (both-not _ _ (λ p q. let w = both_true _ _ q in n (leb-true _ _ p) (leb-true _ _ w.0) (leb-true _ _ w.1)))))

  pub long-enough : x.refusal ≡ 0 → 3 ≤ lengths → x.table ≤ counts → x.table ≤ depths → 0 ≡ output_refusal x lengths counts depths
  unfolding output_refusal
  long-enough z p q r = skip z (sym (yes _ 21 (sym (both-skip (le-leb _ _ p) (both-skip (le-leb _ _ q) (sym (le-leb _ _ r)))))))

  pub none-short : output_refusal x lengths counts depths ≡ 0 → (x.refusal ≡ 0) × (3 ≤ lengths) × (x.table ≤ counts) × (x.table ≤ depths)
  unfolding output_refusal
  none-short e =
      let a = next-zero _ _ e in
      let b = both_true _ _ (unless-zero _ 20 a.1) in
      let c = both_true _ _ b.1 in
      (a.0, leb-true _ _ b.0, leb-true _ _ c.0, leb-true _ _ c.1)

-- ---- numbers stored at the front of a lent list

pub three-stored : (m : List ℕ) (a b c : ℕ) → set (set (set m 0 a) 1 b) 2 c ≡ splice m 0 (a ∷ b ∷ c ∷ [])
unfolding splice
three-stored m a b c = refl

pub none-stored : (m l : List ℕ) → m ≡ splice m 0 (part l 0 0)
unfolding splice part
none-stored m l = refl

one-stored : (m l : List ℕ) (i : ℕ) → i < length l → set (splice m 0 (part l 0 i)) i (get_or l i 0) ≡ splice m 0 (part l 0 (i + 1))
one-stored m l i h =
    let z : 0 + i ≡ i = omega arith in
    let n : 0 + length (part l 0 i) ≡ i = omega (arith, length_part l 0 i (omega arith)) in
    let s = ap (splice m 0) (part-snoc l 0 (i + 1) i (omega arith) (omega arith)) ∙ splice-snoc m 0 (part l 0 i) (get_or l (0 + i) 0) in
    sym (rw (n, z) at s)

pub one-more-stored : (m₀ m l : List ℕ) (i : ℕ) → m ≡ splice m₀ 0 (part l 0 i) → i < length l → set m i (get_or l i 0) ≡ splice m₀ 0 (part l 0 (i + 1))
one-more-stored m₀ m l i e h = rw e (one-stored m₀ l i h)

pub all-stored : (m₀ m l : List ℕ) (i n : ℕ) → m ≡ splice m₀ 0 (part l 0 i) → i ≡ n → m ≡ splice m₀ 0 (part l 0 n)
all-stored m₀ m l i n e z = e ∙ ap (λ (k : ℕ). splice m₀ 0 (part l 0 k)) z

-- ---- what the call leaves: x is the answer for the file f, r the refusal with these outputs

-- the places that the answer needs are there
pub record Room (x : Takes) (lengths counts depths : List ℕ) : Type 0 where
  pub for-lengths : 3 ≤ length lengths
  pub for-counts : x.table ≤ length counts
  pub for-depths : x.table ≤ length depths
  pub of-counts : x.table ≤ length x.count
  pub of-depths : x.table ≤ length x.depth

columns-long : (f : List ℕ) → (takes_of f).refusal ≡ 0 → ((takes_of f).table ≤ length (takes_of f).count) × ((takes_of f).table ≤ length (takes_of f).depth)
columns-long f z = let n = (keeps-rules f (file-accepted f z)).most-cores in rw (answer-is f z) (n, n)

module _ (f lengths counts depths : List ℕ) (x : Takes) (r : ℕ) (e : x ≡ takes_of f) (o : r ≡ output_refusal x (length lengths) (length counts) (length depths)) where
  pub output-refused : (r ≡ 0 → ⊥) → outputs r lengths counts depths ≡ takes_lent f lengths counts depths
  unfolding takes_lent
  output-refused n = rw (sym e, sym o) (sym (pick-false _ _ _ (ne_eqb r 0 n)))

  pub room : r ≡ 0 → Room x lengths counts depths
  room z =
      let w = none-short x _ _ _ (sym o ∙ z) in
      let n = columns-long f (rw e at w.0) in
      record { for-lengths = w.1; for-counts = w.2; for-depths = w.3; of-counts = rw e n.0; of-depths = rw e n.1 }

  pub output-done : r ≡ 0 → (a b c : List ℕ) → a ≡ splice lengths 0 (x.buffer ∷ x.shared ∷ x.table ∷ []) → b ≡ splice counts 0 (part x.count 0 x.table)
      → c ≡ splice depths 0 (part x.depth 0 x.table) → outputs 0 a b c ≡ takes_lent f lengths counts depths
  unfolding takes_lent
  output-done z a b c p q s = rw (p, q, s, sym e) (sym (pick_true _ _ _ (eq-eqb _ _ (sym o ∙ z))))
