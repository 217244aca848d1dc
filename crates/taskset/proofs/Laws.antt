-- Laws of the definitions of `specs/Judge`, `specs/Layout` and `specs/Trace`, for the loops over cores. Assumes nothing.
use mathlib.Core.Path.{◌≡◌, refl, sym, ap, ◌∙◌, subst}
use mathlib.Core.List.{List}
use Prim.Native.Nat.{ℕ, zero, suc, ◌+◌, ◌-◌, ◌*◌, ◌≤◌, ◌<◌}
use native.Mathlib.Nat.{mul-le-mul}
use native.Mathlib.Numerals.{add-one}
use native.Mathlib.Omega.{arith}
use borrow.Author.Tests.{le-leb, leb-true, lt-leb, lt-ltb, le-ltb, eq-eqb, ne_eqb}
use lib.Dec.{eqb}
use lib.ListN.{length}
use Rattle.verdict.specs.Verdict.{next, unless, first}
use Rattle.verdict.proofs.Verdict.{skip, stop, halt, yes, no, next-zero, next-none, unless-zero, inside-true, first-zero, Going, going-none, going_more, going-stop, going_end}
use Rattle.memory.specs.Memory.{word}
use Rattle.code.specs.declared.Profile.{Profile}
use Rattle.records.specs.File.{cores, count_place, data_size, input_size, variables, record_place}
use Rattle.records.specs.Records.{variable_refusal}
use Rattle.taskset.specs.Judge.{head_refusal, code_place, code_refusal, section_refusal, start_sections, start_place, pair_place, start_in, least_in, pair_ok, start_pair_refusal, pairs_refusal, start_refusal, starts_refusal}
use Rattle.taskset.specs.Layout.{base_place}
use Rattle.taskset.specs.Trace.{trace_place}

-- ---- the next core

pub code-next : (f : List ℕ) (p k w : ℕ) → p ≡ code_place f k → w ≡ word f p → p + 2 + w ≡ code_place f (k + 1)
unfolding code_place
code-next f p k w e h = rw (h, e, add-one k)

pub base-next : (f : List ℕ) (b k w : ℕ) → b ≡ base_place f k → w ≡ data_size f k → b + w ≡ base_place f (k + 1)
unfolding base_place
base-next f b k w e h = rw (e, h, add-one k)

pub trace-next : (f t : List ℕ) (p k n w : ℕ) → p ≡ trace_place f t k → n ≡ word t p → w ≡ input_size f k → p + 2 + n * (4 + w) ≡ trace_place f t (k + 1)
unfolding trace_place
trace-next f t p k n w e h g = rw (h, g, e, add-one k)

-- ---- an accepted head, and the records of accepted variables lie in the file

pub head-cores : (o : Profile) (f : List ℕ) → head_refusal o f ≡ 0 → cores f ≤ 4
unfolding head_refusal
head-cores o f e =
    (inside-true 1 4 (cores f) (unless-zero _ 2 (next-zero _ _ (next-zero _ _ (next-zero _ _ (next-zero _ _ e).1).1).1).0)).1

pub head-long : (o : Profile) (f : List ℕ) → head_refusal o f ≡ 0 → 4 ≤ length f
unfolding head_refusal
head-long o f e = leb-true 4 (length f) (unless-zero _ 0 (next-zero _ _ e).0)

pub records-present : (f : List ℕ) → count_place f + 1 ≤ length f → first (variable_refusal f) (variables f - 0) 0 ≡ 0 → record_place f (variables f) ≤ length f
unfolding variable_refusal
records-present f h z = go (variables f) refl
  where
    go : (m : ℕ) → variables f ≡ m → record_place f (variables f) ≤ length f
    go zero e = omega arith
    go (suc m) e =
        let a = first-zero (variable_refusal f) (variables f - 0) 0 z m (omega arith) (omega arith) in
        let b = leb-true (record_place f m + 12) (length f) (unless-zero _ 0 (next-zero _ _ a).0) in
        omega arith

-- ---- the loop over the codes: the length of core k's code stands at p

pub record Sections (o : Profile) (f : List ℕ) (n p k : ℕ) : Type 0 where
  pub going : Going (code_refusal o f) 0 n k
  pub here : p ≡ code_place f k
  pub small : p ≤ 9000 + 66000 * k
  pub upto : k ≤ n

pub sections-none : (o : Profile) (f : List ℕ) (n p : ℕ) → p ≡ code_place f 0 → p < 9000 → Sections o f n p 0
sections-none o f n p e h = record { going = going-none _ _ _; here = e; small = omega arith; upto = omega arith }

pub sections-more : (o : Profile) (f : List ℕ) (n p k w : ℕ) → Sections o f n p k → k < n → section_refusal o f p ≡ 0 → w ≡ word f p → w < 65536
    → Sections o f n (p + 2 + w) (k + 1)
sections-more o f n p k w r h z e l =
    record {
      going = going_more _ _ _ _ r.going h (sym (ap (section_refusal o f) r.here) ∙ z);
      here = code-next f p k w r.here e;
      small = omega (arith, r.small);
      upto = omega arith;
    }

pub sections-end : (o : Profile) (f : List ℕ) (n p k : ℕ) → Sections o f n p k → n ≤ k → p ≡ code_place f n
sections-end o f n p k r h =
    let e : k ≡ n = omega (arith, r.upto) in
    r.here ∙ ap (code_place f) e

-- ---- the loop over a core's start values: `least` is the least place that number i may have

pub record Pairs (f : List ℕ) (size p n least i : ℕ) : Type 0 where
  pub going : Going (start_pair_refusal f size p) 0 n i
  pub least-is : least ≡ least_in f p i

pub pairs-none : (f : List ℕ) (size p n : ℕ) → Pairs f size p n 0 0
unfolding least_in
pairs-none f size p n = record { going = going-none _ _ _; least-is = refl }

pub pairs-more : (f : List ℕ) (size p n least i place : ℕ) → Pairs f size p n least i → i < n → start_pair_refusal f size p i ≡ 0 → place ≡ start_in f p i
    → Pairs f size p n (place + 1) (i + 1)
unfolding least_in
pairs-more f size p n least i place r h z e =
    record { going = going_more _ _ _ _ r.going h z; least-is = rw (add-one i) (ap (λ (x : ℕ). x + 1) e) }

module _ (f : List ℕ) (size p i : ℕ) where
  pub pair-cut : length f < pair_place p i + 3 → 1 ≡ start_pair_refusal f size p i
  unfolding start_pair_refusal
  pair-cut h = halt 0 _ (no _ _ (lt-leb _ _ h))

  pub pair-beyond : pair_place p i + 3 ≤ length f → size ≤ start_in f p i → 31 ≡ start_pair_refusal f size p i
  unfolding start_pair_refusal pair_ok
  pair-beyond l h = skip (yes _ _ (le-leb _ _ l)) (sym (no _ 31 (rw (le-ltb (start_in f p i) size h))))

  pub pair-falls : pair_place p i + 3 ≤ length f → start_in f p i < size → start_in f p i < least_in f p i → 31 ≡ start_pair_refusal f size p i
  unfolding start_pair_refusal pair_ok
  pair-falls l h g = skip (yes _ _ (le-leb _ _ l)) (sym (no _ 31 (rw (lt-ltb (start_in f p i) size h, lt-leb (least_in f p i) (start_in f p i) g))))

  pub pair-fine : pair_place p i + 3 ≤ length f → start_in f p i < size → least_in f p i ≤ start_in f p i → start_pair_refusal f size p i ≡ 0
  unfolding start_pair_refusal pair_ok
  pair-fine l h g = next-none _ _ (yes _ _ (le-leb _ _ l)) (yes _ 31 (rw (lt-ltb (start_in f p i) size h) (le-leb (least_in f p i) (start_in f p i) g)))

module _ (f : List ℕ) (size p n : ℕ) (least i : ℕ) (there : p + 2 ≤ length f) (e : n ≡ word f p) (x : Pairs f size p n least i) where
  pub pairs-stop : (r : ℕ) → i < n → r ≡ start_pair_refusal f size p i → (r ≡ 0 → ⊥) → r ≡ pairs_refusal f size p
  unfolding pairs_refusal
  pairs-stop r h q z = rw (sym e) (skip (yes _ _ (le-leb _ _ there)) (going-stop _ _ _ _ _ x.going h q z))

  pub pairs_end : n ≤ i → 0 ≡ pairs_refusal f size p
  unfolding pairs_refusal
  pairs_end h = rw (sym e) (skip (yes _ _ (le-leb _ _ there)) (going_end _ _ _ _ x.going h))

-- ---- the loop over the cores' start values: the count of core k stands at p

pub start-next : (f : List ℕ) (p k w : ℕ) → p ≡ start_place f k → w ≡ word f p → p + 2 + 3 * w ≡ start_place f (k + 1)
unfolding start_place
start-next f p k w e h = rw (h, e, add-one k)

pub record Starting (f : List ℕ) (n p k : ℕ) : Type 0 where
  pub going : Going (start_refusal f) 0 n k
  pub here : p ≡ start_place f k
  pub small : p ≤ 400000 + 200000 * k
  pub upto : k ≤ n

pub starting-none : (f : List ℕ) (n p : ℕ) → p ≡ start_place f 0 → p < 400000 → Starting f n p 0
starting-none f n p e h = record { going = going-none _ _ _; here = e; small = omega arith; upto = omega arith }

pub starting-more : (f : List ℕ) (n p k w : ℕ) → Starting f n p k → k < n → pairs_refusal f (data_size f k) p ≡ 0 → w ≡ word f p → w < 65536
    → Starting f n (p + 2 + 3 * w) (k + 1)
starting-more f n p k w r h z e l =
    record {
      going = going_more _ _ _ _ r.going h (sym (ap (pairs_refusal f (data_size f k)) r.here) ∙ z);
      here = start-next f p k w r.here e;
      small = omega (arith, r.small);
      upto = omega arith;
    }

pub starting-end : (f : List ℕ) (n p k : ℕ) → Starting f n p k → n ≤ k → p ≡ start_place f n
starting-end f n p k r h =
    let e : k ≡ n = omega (arith, r.upto) in
    r.here ∙ ap (start_place f) e

-- what is found at core k, and at the end: the last section ends where the file ends, or bytes follow it
module _ (f : List ℕ) (n p k : ℕ) (e : n ≡ start_sections f) (x : Starting f n p k) where
  pub starts-stop : (r : ℕ) → k < n → r ≡ pairs_refusal f (data_size f k) p → (r ≡ 0 → ⊥) → r ≡ starts_refusal f
  unfolding starts_refusal
  starts-stop r h q z =
      subst (λ (m : ℕ). r ≡ next (first (start_refusal f) (m - 0) 0) (unless (eqb (start_place f m) (length f)) 24)) e
      (stop _ (going-stop _ _ _ _ _ x.going h (q ∙ ap (pairs_refusal f (data_size f k)) x.here) z) z)

  pub starts-done : n ≤ k → p ≡ length f → 0 ≡ starts_refusal f
  unfolding starts_refusal
  starts-done h q =
      subst (λ (m : ℕ). 0 ≡ next (first (start_refusal f) (m - 0) 0) (unless (eqb (start_place f m) (length f)) 24)) e
      (skip (sym (going_end _ _ _ _ x.going h)) (sym (yes _ _ (eq-eqb _ _ (sym (starting-end f n p k x h) ∙ q)))))

  pub starts-followed : n ≤ k → (p ≡ length f → ⊥) → 24 ≡ starts_refusal f
  unfolding starts_refusal
  starts-followed h q =
      subst (λ (m : ℕ). 24 ≡ next (first (start_refusal f) (m - 0) 0) (unless (eqb (start_place f m) (length f)) 24)) e
      (skip (sym (going_end _ _ _ _ x.going h)) (sym (no _ _ (ne_eqb _ _ (λ z. q (starting-end f n p k x h ∙ z))))))

-- ---- the records of one core are not too many to count

pub records-small : (n w : ℕ) → n < 65536 → w < 65536 → n * (4 + w) ≤ 4999999998
records-small n w h l =
    let a : n * (4 + w) ≤ 65535 * 65539 = mul-le-mul {n₂ = 65535} {m₂ = 65539} (omega arith) (omega arith) in
    omega arith
