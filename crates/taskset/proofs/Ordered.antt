-- `judged-in-order-for`: the number of a file under a profile is that of the first rule that is broken, in the order of `specs/Items`; `judged-in-order` is
-- that of the full profile. In order: one item's presence;
-- cores; variables; overlap; codes; start values; the file. Assumes nothing.
use mathlib.Core.Path.{◌≡◌, refl}
use mathlib.Core.Bool.{Bool, true, false}
use mathlib.Core.Logic.{◌⊎◌, inl, inr}
use mathlib.Core.List.{List, [], ◌∷◌}
use Prim.Native.Nat.{ℕ, ◌+◌, ◌-◌}
use native.Mathlib.Omega.{arith}
use borrow.Author.Tests.{le-leb, leb-true, eq-eqb, eqb-true}
use lib.Dec.{leb, eqb}
use lib.ListN.{length}
use Rattle.verdict.specs.Verdict.{within, pick, next, unless, first}
use Rattle.verdict.specs.Items.{numbers, Item, item, for_each, in_turn, First}
use Rattle.verdict.proofs.Verdict.{pick-false, unless-zero, zero-first, inside, inside-true}
use Rattle.verdict.proofs.Items.{Judges, judges-one, judges-both, judges-number, judges-each, first-number, judges-end, next_both, judged}
use Rattle.memory.specs.Memory.{word}
use Rattle.code.specs.declared.Profile.{Profile}
use Rattle.code.specs.declared.Profile.TheVariants.{Full}
use Rattle.code.specs.Rules.{code_items_for}
use Rattle.code.proofs.Exact.{code-judged}
use Rattle.records.specs.File.{cores, core_place, data_size, count_place, variables, record_place, variable_at}
use Rattle.records.specs.Records.{present, core_ok, core_refusal, variable_ok, variable_refusal, overlap, pair_refusal, overlap_refusal}
use Rattle.records.proofs.Exact.{core-rules, core-ok, variable-rules, variable-ok, overlap-not}
use Rattle.taskset.specs.Judge.{is_mark, head_refusal, variables_refusal, code_place, code_in, code_refusal, section_refusal, start_sections, start_place, pair_place, pair_ok, start_pair_refusal, pairs_refusal, start_refusal, file_end, starts_refusal, codes_refusal, judge_for, judge}
use Rattle.taskset.specs.Rules.{NoOverlap}
use Rattle.taskset.specs.Items.{Present, core_items, variable_items, length_items, pair_items, start_items, file_items_for, file_items}
use Rattle.taskset.proofs.Exact.{mark-is, is-mark, pair-at, pair-rules, pair_ok_lem, none}

-- ---- presence

there : (f : List ℕ) (n : ℕ) → Judges (item 1 (Present f n) ∷ []) (present f n)
there f n = judges-one 0 (leb n (length f)) (leb-true n (length f)) (le-leb n (length f))

-- ---- cores and variables

core : (o : Profile) (f : List ℕ) (k : ℕ) → Judges (core_items o f k) (core_refusal o f k)
unfolding core_refusal
core o f k = judges-both (there f (core_place k + 6)) (λ _. judges-one 2 (core_ok o f k) (core-rules o f k) (core-ok o f k))

variable : (f : List ℕ) (i : ℕ) → Judges (variable_items f i) (variable_refusal f i)
unfolding variable_refusal
variable f i =
    judges-both (there f (record_place f i + 12))
    (λ _. judges-one 3 (variable_ok f (variable_at f i)) (variable-rules f (variable_at f i)) (variable-ok f (variable_at f i)))

-- all of n things
all : (items : ℕ → List Item) (g : ℕ → ℕ) (n : ℕ) → ((j : ℕ) → Judges (items j) (g j)) → Judges (for_each (numbers n 0) items) (first g (n - 0) 0)
all items g n h =
    let e : n - 0 ≡ n = omega arith in
    rw e (judges-each items g n 0 (λ j a b. h j))

-- ---- overlap

pair-number : (f : List ℕ) (i j : ℕ) → (pair_refusal f i j ≡ 0) ⊎ (pair_refusal f i j ≡ 5)
unfolding pair_refusal pick
pair-number f i j = go (overlap (variable_at f i) (variable_at f j)) refl
  where
    go : (b : Bool) → overlap (variable_at f i) (variable_at f j) ≡ b → (pair_refusal f i j ≡ 0) ⊎ (pair_refusal f i j ≡ 5)
    go true e = inr (rw e)
    go false e = inl (rw e)

overlaps : (f : List ℕ) → Judges (item 5 (NoOverlap f) ∷ []) (first (overlap_refusal f) (variables f - 0) 0)
unfolding overlap_refusal pair_refusal
overlaps f =
    judges-number 4 _ (first-number 5 (overlap_refusal f) (λ i. first-number 5 (pair_refusal f i) (pair-number f i) (variables f - (i + 1)) (i + 1)) (variables f - 0) 0)
    (pair-at f) apart_none
  where
    apart_none : NoOverlap f → first (overlap_refusal f) (variables f - 0) 0 ≡ 0
    apart_none h =
        none (overlap_refusal f) (variables f)
        (λ i l. zero-first (pair_refusal f i) (variables f - (i + 1)) (i + 1)
        (λ j a b. pick-false _ 5 0 (overlap-not (variable_at f i) (variable_at f j) (h i j (omega arith) (omega arith)))))

-- ---- codes

section : (o : Profile) (f : List ℕ) (p : ℕ) → Judges (in_turn (length_items f p ∷ code_items_for o (code_in f p) ∷ [])) (section_refusal o f p)
unfolding section_refusal
section o f p =
    judges-both (there f (p + 2))
    (λ _. judges-both (judges-one 5 (within 1 8192 (word f p)) (inside-true 1 8192 (word f p)) (λ h. inside 1 8192 (word f p) h.0 h.1))
    (λ _. judges-both (there f (p + 2 + word f p)) (λ _. judges-end (code-judged o (code_in f p)))))

-- ---- start values

pairs : (f : List ℕ) (size p : ℕ) → Judges (start_items f size p) (pairs_refusal f size p)
unfolding pairs_refusal start_pair_refusal
pairs f size p =
    judges-both (there f (p + 2))
    (λ _. judges-end
    (all (pair_items f size p) (start_pair_refusal f size p) (word f p)
    (λ i. judges-both (there f (pair_place p i + 3)) (λ _. judges-one 30 (pair_ok f size p i) (pair-rules f size p i) (pair_ok_lem f size p i)))))

-- ---- the file

-- the judgement, item by item
flat : (o : Profile) (f : List ℕ)
    → judge_for o f ≡ next (next (present f 4) (unless (is_mark f) 2))
    (next (next (present f 5) (unless (within 1 4 (cores f)) 3))
    (next (first (core_refusal o f) (cores f - 0) 0)
    (next (next (present f (count_place f + 1)) (unless (leb (variables f) 64) 4))
    (next (first (variable_refusal f) (variables f - 0) 0)
    (next (first (overlap_refusal f) (variables f - 0) 0)
    (next (first (code_refusal o f) (cores f - 0) 0)
    (next (first (start_refusal f) (start_sections f - 0) 0)
    (unless (eqb (file_end f) (length f)) 24))))))))
unfolding judge_for head_refusal variables_refusal codes_refusal starts_refusal
flat o f = simp next_both

pub in_order : (o : Profile) (f : List ℕ) → Judges (file_items_for o f) (judge_for o f)
unfolding file_items_for
in_order o f =
    rw (flat o f)
    (judges-both (judges-both (there f 4) (λ p. judges-one 1 (is_mark f) (mark-is f (leb-true 4 (length f) (unless-zero _ 0 p))) (is-mark f)))
    (λ _. judges-both (judges-both (there f 5) (λ _. judges-one 2 (within 1 4 (cores f)) (inside-true 1 4 (cores f)) (λ h. inside 1 4 (cores f) h.0 h.1)))
    (λ _. judges-both (all (core_items o f) (core_refusal o f) (cores f) (core o f))
    (λ _. judges-both (judges-both (there f (count_place f + 1)) (λ _. judges-one 3 (leb (variables f) 64) (leb-true (variables f) 64) (le-leb (variables f) 64)))
    (λ _. judges-both (all (variable_items f) (variable_refusal f) (variables f) (variable f))
    (λ _. judges-both (overlaps f)
    (λ _. judges-both (all _ (code_refusal o f) (cores f) (λ k. section o f (code_place f k)))
    (λ _. judges-both (all _ (start_refusal f) (start_sections f) (λ k. pairs f (data_size f k) (start_place f k)))
    (λ _. judges-end (judges-one 23 (eqb (file_end f) (length f)) (eqb-true _ _) (eq-eqb _ _)))))))))))

pub judged-in-order-for : (o : Profile) (f : List ℕ) → First (file_items_for o f) (judge_for o f)
judged-in-order-for o f = judged (in_order o f)

pub judged-in-order : (f : List ℕ) → First (file_items f) (judge f)
judged-in-order f = judged-in-order-for Full f
