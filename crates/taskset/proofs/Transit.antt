-- `in-transit-for`: a file that a profile accepts is 1 if it is cut, and 24 with anything behind it; `in-transit` is that of the full profile. A file g and the file g ++ b are judged alike, item by item, as
-- far as g goes: an item that lies in g reads the same bytes in both, and one that does not is 1 in g. So the two laws are one comparison, read from either
-- side. In order: a file's items; bytes; mark and cores; variables; codes; the whole file; the two laws.
-- Not here: two judgements that are alike or cut (`Kept`). Assumes nothing.
use mathlib.Core.Path.{◌≡◌, refl, sym, ap, ◌∙◌}
use mathlib.Core.Bool.{Bool, true, false}
use mathlib.Core.List.{List, ◌++◌}
use Prim.Native.Nat.{ℕ, zero, suc, ◌+◌, ◌-◌, ◌*◌, ◌≤◌, ◌<◌}
use native.Mathlib.Numerals.{add-one}
use native.Mathlib.Omega.{arith}
use borrow.Author.Tests.{le-leb, leb-true, ltb-true, ne_eqb, eqb-true}
use lib.Dec.{leb, ltb, eqb}
use lib.ListN.{length, take, drop, length-append, length-drop, take-append-drop, get_or-append}
use lib.Seq.{take-append-le, drop-append-le}
use Rattle.verdict.specs.Verdict.{pick, both, within, next, unless, first}
use Rattle.verdict.proofs.Verdict.{skip, halt, yes, no, next-zero, unless-zero}
use Rattle.verdict.proofs.Items.{next_both}
use Rattle.memory.specs.Memory.{byte, word, part, read_le, value_le}
use Rattle.code.specs.declared.Profile.{Profile}
use Rattle.code.specs.declared.Profile.TheVariants.{Full}
use Rattle.code.specs.Code.{judge_code_for}
use Rattle.protocol.specs.Variables.{Variable, local}
use Rattle.records.specs.File.{cores, core_place, data_size, input_size, count_place, variables, record_place, variable_at}
use Rattle.records.specs.Records.{present, core_ok, core_refusal, place_ok, part_ok, parts_ok, variable_ok, variable_refusal, overlap, pair_refusal, overlap_refusal}
use Rattle.taskset.specs.Judge.{old_mark, new_mark, has_mark, is_new, is_mark, head_refusal, variables_refusal, code_place, code_refusal, section_refusal, start_sections, start_place}
use Rattle.taskset.specs.Judge.{pair_place, least_in, pair_ok, start_pair_refusal, pairs_refusal, start_refusal, file_end, starts_refusal, codes_refusal, judge_for, judge}
use Rattle.taskset.specs.Transit.{InTransitFor, InTransit}
use Rattle.taskset.proofs.Laws.{records-present}
use Rattle.taskset.proofs.Kept.{Kept, kept_next, kept-none, ap-kept, kept-each, carried, same_from, alike, cut}

-- ---- all items of a file but the last

unfoldable items : Profile → List ℕ → ℕ
items o f = next (head_refusal o f) (next (variables_refusal f) (next (first (code_refusal o f) (cores f - 0) 0) (first (start_refusal f) (start_sections f - 0) 0)))

items-last : (o : Profile) (f : List ℕ) → judge_for o f ≡ next (items o f) (unless (eqb (file_end f) (length f)) 24)
unfolding judge_for codes_refusal starts_refusal items
items-last o f = simp next_both

-- ---- bytes of g stand in g ++ b

module _ (o : Profile) (g b : List ℕ) where
  byte-same : (p : ℕ) → p < length g → byte (g ++ b) p ≡ byte g p
  byte-same p h = get_or-append g b 0 p h

  part_same : (p n : ℕ) → p + n ≤ length g → part (g ++ b) p n ≡ part g p n
  unfolding part
  part_same p n h =
      ap (take n) (drop-append-le p g b (omega arith)) ∙ take-append-le n (drop p g) b (omega (arith, length-drop p g))

  word_same : (p : ℕ) → p + 2 ≤ length g → word (g ++ b) p ≡ word g p
  unfolding read_le
  word_same p h = ap value_le (part_same p 2 h)

  longer : length (g ++ b) ≡ length g + length b
  longer = length-append g b

  -- an item that ends at e: cut, or there in both
  kept-item : (e : ℕ) {x y : ℕ} → (e ≤ length g → Kept x y) → Kept (next (present g e) x) (next (present (g ++ b) e) y)
  kept-item e k = kept_next _ _ (go (leb e (length g)) refl) (λ z. k (leb-true _ _ (unless-zero _ 0 z)))
    where
      go : (t : Bool) → leb e (length g) ≡ t → Kept (present g e) (present (g ++ b) e)
      go true r =
          let l : e ≤ length g = leb-true _ _ r in
          alike (yes _ 1 r ∙ sym (yes (leb e (length (g ++ b))) 1 (le-leb e (length (g ++ b)) (omega (arith, longer)))))
      go false r = cut (no _ 1 r)

  -- ---- the mark and the cores

  marked-same : (m : List ℕ) → 4 ≤ length g → has_mark m (g ++ b) ≡ has_mark m g
  unfolding has_mark
  marked-same m h = rw (byte-same 0 (omega arith), byte-same 1 (omega arith), byte-same 2 (omega arith), byte-same 3 (omega arith))

  mark-same : 4 ≤ length g → is_mark (g ++ b) ≡ is_mark g
  mark-same h = rw (marked-same old_mark h, marked-same new_mark h)

  cores-same : 5 ≤ length g → cores (g ++ b) ≡ cores g
  cores-same h = byte-same 4 (omega arith)

  core-same : (k : ℕ) → core_place k + 6 ≤ length g → core_ok o (g ++ b) k ≡ core_ok o g k
  unfolding core_ok
  core-same k h =
      rw (word_same (core_place k) (omega arith), word_same (core_place k + 2) (omega arith), word_same (core_place k + 4) (omega arith))

  kept-core : (k : ℕ) → Kept (core_refusal o g k) (core_refusal o (g ++ b) k)
  unfolding core_refusal
  kept-core k = kept-item (core_place k + 6) (λ h. alike (ap (λ (t : Bool). unless t 3) (sym (core-same k h))))

  core-ends : (k : ℕ) → core_refusal o g k ≡ 0 → core_place (k + 1) ≤ length g
  unfolding core_refusal
  core-ends k z =
      let l : core_place k + 6 ≤ length g = leb-true _ _ (unless-zero _ 0 (next-zero (present g (core_place k + 6)) _ z).0) in
      omega arith

  kept-head : Kept (head_refusal o g) (head_refusal o (g ++ b))
  unfolding head_refusal
  kept-head =
      kept-item 4
      (λ four. kept_next _ _ (alike (ap (λ (t : Bool). unless t 2) (sym (mark-same four))))
      (λ _. kept-item 5
      (λ five. rw (cores-same five)
      (kept_next _ _ (alike refl)
      (λ _. kept-each (core_refusal o g) (core_refusal o (g ++ b)) (λ j. core_place j ≤ length g) (cores g) (λ j l p. kept-core j) (λ j l p z. core-ends j z)
      (omega arith))))))

  head-ends : head_refusal o g ≡ 0 → count_place g ≤ length g
  unfolding head_refusal
  head-ends z =
      let a = next-zero (present g 4) _ z in
      let c = next-zero (unless (is_mark g) 2) _ a.1 in
      let d = next-zero (present g 5) _ c.1 in
      let e = next-zero (unless (within 1 4 (cores g)) 3) _ d.1 in
      let five : 5 ≤ length g = leb-true _ _ (unless-zero _ 0 d.0) in
      carried (core_refusal o g) (core_refusal o g) (λ j. core_place j ≤ length g) (cores g) (λ j l p. alike refl) (λ j l p y. core-ends j y)
      (omega arith) e.1

  -- ---- the variables

  module _ (h : count_place g ≤ length g) where
    same-cores : cores (g ++ b) ≡ cores g
    same-cores = cores-same (omega arith)

    place_same : (v : Variable) (k : ℕ) → place_ok (g ++ b) v k ≡ place_ok g v k
    unfolding place_ok
    place_same v k = rw same-cores (go (ltb k (cores g)) refl)
      where
        go : (t : Bool) → ltb k (cores g) ≡ t → both (ltb k (cores g)) (both (leb (input_size (g ++ b) k) (local k v)) (leb (local k v + v.width) (data_size (g ++ b) k))) ≡ both (ltb k (cores g)) (both (leb (input_size g k) (local k v)) (leb (local k v + v.width) (data_size g k)))
        go true r =
            let l : k < cores g = ltb-true _ _ r in
            rw (word_same (core_place k) (omega arith), word_same (core_place k + 2) (omega arith))
        go false r = rw r

    rules-same : (v : Variable) → variable_ok (g ++ b) v ≡ variable_ok g v
    unfolding variable_ok parts_ok part_ok
    rules-same v = rw (place_same v 0, place_same v 1, place_same v 2, place_same v 3)

    variable-same : (i : ℕ) → record_place g i + 12 ≤ length g → variable_at (g ++ b) i ≡ variable_at g i
    variable-same i l =
        rw (
          same-cores,
          word_same (record_place g i) (omega arith),
          byte-same (record_place g i + 2) (omega arith),
          byte-same (record_place g i + 3) (omega arith),
          word_same (record_place g i + 4) (omega arith),
          word_same (record_place g i + 6) (omega arith),
          word_same (record_place g i + 8) (omega arith),
          word_same (record_place g i + 10) (omega arith),
        )

    kept-variable : (i : ℕ) → Kept (variable_refusal g i) (variable_refusal (g ++ b) i)
    unfolding variable_refusal
    kept-variable i =
        ap-kept (λ (p : ℕ). next (present (g ++ b) (p + 12)) (unless (variable_ok (g ++ b) (variable_at (g ++ b) i)) 4)) (ap (λ (n : ℕ). core_place n + 1 + 12 * i) (sym same-cores))
        (kept-item (record_place g i + 12)
        (λ l. alike (ap (λ (t : Bool). unless t 4) (sym (rules-same (variable_at (g ++ b) i) ∙ ap (variable_ok g) (variable-same i l))))))

    variable-ends : (i : ℕ) → variable_refusal g i ≡ 0 → record_place g (i + 1) ≤ length g
    unfolding variable_refusal
    variable-ends i z =
        let l : record_place g i + 12 ≤ length g = leb-true _ _ (unless-zero _ 0 (next-zero (present g (record_place g i + 12)) _ z).0) in
        omega arith

    overlap-same : (i j : ℕ) → record_place g i + 12 ≤ length g → record_place g j + 12 ≤ length g → pair_refusal g i j ≡ pair_refusal (g ++ b) i j
    unfolding pair_refusal
    overlap-same i j l m = ap (λ (v : Variable). pick (overlap v (variable_at g j)) 5 0) (sym (variable-same i l)) ∙ ap (λ (v : Variable). pick (overlap (variable_at (g ++ b) i) v) 5 0) (sym (variable-same j m))

    overlaps-same : variables (g ++ b) ≡ variables g → record_place g (variables g) ≤ length g
        → first (overlap_refusal g) (variables g - 0) 0 ≡ first (overlap_refusal (g ++ b)) (variables g - 0) 0
    unfolding overlap_refusal
    overlaps-same e r =
        same_from _ _ (variables g - 0) 0
        (λ i _ l. same_from _ _ (variables g - (i + 1)) (i + 1) (λ j m n. overlap-same i j (omega arith) (omega arith))
        ∙ ap (λ (n : ℕ). first (pair_refusal (g ++ b) i) (n - (i + 1)) (i + 1)) (sym e))

    kept-variables : Kept (variables_refusal g) (variables_refusal (g ++ b))
    unfolding variables_refusal
    kept-variables =
        rw same-cores
        (kept-item (count_place g + 1)
        (λ l.
        let e : byte (g ++ b) (count_place g) ≡ variables g = byte-same (count_place g) (omega arith) in
        let n : variables (g ++ b) ≡ variables g = ap (λ (n : ℕ). byte (g ++ b) (core_place n)) same-cores ∙ e in
        rw e
        (kept_next _ _ (alike refl)
        (λ _. kept_next _ _
        (kept-each (variable_refusal g) (variable_refusal (g ++ b)) (λ i. record_place g i ≤ length g) (variables g) (λ i m p. kept-variable i) (λ i m p z. variable-ends i z) (omega arith))
        (λ z. alike (overlaps-same n (records-present g l z)))))))

    variables-end : variables_refusal g ≡ 0 → record_place g (variables g) ≤ length g
    unfolding variables_refusal
    variables-end z =
        let a = next-zero (present g (count_place g + 1)) _ z in
        let c = next-zero (unless (leb (variables g) 64) 4) _ a.1 in
        let d = next-zero (first (variable_refusal g) (variables g - 0) 0) _ c.1 in
        records-present g (leb-true _ _ (unless-zero _ 0 a.0)) d.0

  -- ---- the codes

  -- where the code of core k is told to begin in both
  record Place (k : ℕ) : Type 0 where
    same : code_place (g ++ b) k ≡ code_place g k
    inside : code_place g k ≤ length g

  kept-section : (p : ℕ) → Kept (section_refusal o g p) (section_refusal o (g ++ b) p)
  unfolding section_refusal
  kept-section p =
      kept-item (p + 2)
      (λ l. rw (word_same p l)
      (kept_next _ _ (alike refl)
      (λ _. kept-item (p + 2 + word g p) (λ m. alike (ap (judge_code_for o) (sym (part_same (p + 2) (word g p) m)))))))

  section-ends : (p : ℕ) → section_refusal o g p ≡ 0 → p + 2 + word g p ≤ length g
  unfolding section_refusal
  section-ends p z =
      let a = next-zero (present g (p + 2)) _ z in
      let c = next-zero (unless (within 1 8192 (word g p)) 6) _ a.1 in
      let d = next-zero (present g (p + 2 + word g p)) _ c.1 in
      leb-true _ _ (unless-zero _ 0 d.0)

  place-more : (k : ℕ) → Place k → code_refusal o g k ≡ 0 → Place (k + 1)
  unfolding code_place
  place-more k p z =
      let l : code_place g k + 2 + word g (code_place g k) ≤ length g = section-ends (code_place g k) z in
      rw (add-one k)
      (record { same = rw (p.same, word_same (code_place g k) (omega arith)); inside = l })

  place_none : record_place g (variables g) ≤ length g → Place 0
  unfolding code_place
  place_none r =
      let c : cores (g ++ b) ≡ cores g = cores-same (omega arith) in
      record { same = rw (c, byte-same (count_place g) (omega arith)); inside = r }

  kept-code : (k : ℕ) → Place k → Kept (code_refusal o g k) (code_refusal o (g ++ b) k)
  kept-code k p = rw p.same (kept-section (code_place g k))

  -- ---- the start values

  pair_same : (size p i : ℕ) → pair_place p i + 3 ≤ length g → pair_ok (g ++ b) size p i ≡ pair_ok g size p i
  unfolding pair_ok least_in
  pair_same size p zero l = rw (word_same (pair_place p 0) (omega arith))
  pair_same size p (suc i) l = rw (word_same (pair_place p i) (omega arith), word_same (pair_place p (suc i)) (omega arith))

  kept_pair : (size p i : ℕ) → Kept (start_pair_refusal g size p i) (start_pair_refusal (g ++ b) size p i)
  unfolding start_pair_refusal
  kept_pair size p i = kept-item (pair_place p i + 3) (λ l. alike (ap (λ (t : Bool). unless t 31) (sym (pair_same size p i l))))

  pair_ends : (size p i : ℕ) → start_pair_refusal g size p i ≡ 0 → pair_place p (i + 1) ≤ length g
  unfolding start_pair_refusal
  pair_ends size p i z =
      let l : pair_place p i + 3 ≤ length g = leb-true _ _ (unless-zero _ 0 (next-zero (present g (pair_place p i + 3)) _ z).0) in
      omega arith

  kept-pairs : (size p : ℕ) → Kept (pairs_refusal g size p) (pairs_refusal (g ++ b) size p)
  unfolding pairs_refusal
  kept-pairs size p =
      kept-item (p + 2)
      (λ l. rw (word_same p l)
      (kept-each (start_pair_refusal g size p) (start_pair_refusal (g ++ b) size p) (λ i. pair_place p i ≤ length g) (word g p)
      (λ i m q. kept_pair size p i) (λ i m q z. pair_ends size p i z) (omega arith)))

  pairs_end : (size p : ℕ) → pairs_refusal g size p ≡ 0 → p + 2 + 3 * word g p ≤ length g
  unfolding pairs_refusal
  pairs_end size p z =
      let a = next-zero (present g (p + 2)) _ z in
      let l : p + 2 ≤ length g = leb-true _ _ (unless-zero _ 0 a.0) in
      carried (start_pair_refusal g size p) (start_pair_refusal g size p) (λ i. pair_place p i ≤ length g) (word g p)
      (λ i m q. alike refl) (λ i m q y. pair_ends size p i y) (omega arith) a.1

  -- where the start values of core k are told to begin in both
  record Begins (k : ℕ) : Type 0 where
    same : start_place (g ++ b) k ≡ start_place g k
    inside : start_place g k ≤ length g

  begins-none : count_place g ≤ length g → Place (cores g) → Begins 0
  unfolding start_place
  begins-none h p = record { same = ap (code_place (g ++ b)) (same-cores h) ∙ p.same; inside = p.inside }

  begins-more : (k : ℕ) → Begins k → start_refusal g k ≡ 0 → Begins (k + 1)
  unfolding start_place
  begins-more k p z =
      let l : start_place g k + 2 + 3 * word g (start_place g k) ≤ length g = pairs_end (data_size g k) (start_place g k) z in
      rw (add-one k)
      (record { same = rw (p.same, word_same (start_place g k) (omega arith)); inside = l })

  kept-start : (k : ℕ) → core_place k + 2 ≤ length g → Begins k → Kept (start_refusal g k) (start_refusal (g ++ b) k)
  kept-start k h p = rw (p.same, word_same (core_place k) h) (kept-pairs (data_size g k) (start_place g k))

  sections-same : count_place g ≤ length g → start_sections (g ++ b) ≡ start_sections g
  sections-same h = rw (marked-same new_mark (omega arith), same-cores h)

  few-sections : start_sections g ≤ cores g
  unfolding pick
  few-sections = go (is_new g)
    where
      go : (t : Bool) → pick t (cores g) 0 ≤ cores g
      go true = omega arith
      go false = omega arith

  kept-starts : count_place g ≤ length g → Begins 0
      → Kept (first (start_refusal g) (start_sections g - 0) 0) (first (start_refusal (g ++ b)) (start_sections g - 0) 0)
  kept-starts h p =
      kept-each (start_refusal g) (start_refusal (g ++ b)) Begins (start_sections g) (λ k l q. kept-start k (omega (arith, few-sections)) q) (λ k l q z. begins-more k q z) p

  -- ---- the whole file: all items but the last, and where they end

  codes-end : (r : record_place g (variables g) ≤ length g) → first (code_refusal o g) (cores g - 0) 0 ≡ 0 → Place (cores g)
  codes-end r z = carried (code_refusal o g) (code_refusal o g) Place (cores g) (λ k l p. alike refl) (λ k l p y. place-more k p y) (place_none r) z

  kept-all : Kept (items o g) (items o (g ++ b))
  unfolding items
  kept-all =
      kept_next _ _ kept-head
      (λ z. let c = head-ends z in
      kept_next _ _ (kept-variables c)
      (λ y. let r = variables-end c y in
      rw (sections-same c, same-cores c)
      (kept_next _ _
      (kept-each (code_refusal o g) (code_refusal o (g ++ b)) Place (cores g) (λ k l p. kept-code k p) (λ k l p z. place-more k p z) (place_none r))
      (λ x. kept-starts c (begins-none c (codes-end r x))))))

  ends-alike : items o g ≡ 0 → (file_end (g ++ b) ≡ file_end g) × (file_end g ≤ length g)
  unfolding items
  ends-alike z =
      let a = next-zero (head_refusal o g) _ z in
      let d = next-zero (variables_refusal g) _ a.1 in
      let c = head-ends a.0 in
      let e = next-zero (first (code_refusal o g) (cores g - 0) 0) _ d.1 in
      let at : Begins (start_sections g) =
      carried (start_refusal g) (start_refusal g) Begins (start_sections g) (λ k l p. alike refl) (λ k l p y. begins-more k p y) (begins-none c (codes-end (variables-end c d.0) e.0)) e.1
      in
      (ap (start_place (g ++ b)) (sections-same c) ∙ at.same, at.inside)

  -- ---- the two laws

  module _ (more : 0 < length b) where
    -- what follows an accepted file is left over
    followed-24 : judge_for o g ≡ 0 → judge_for o (g ++ b) ≡ 24
    followed-24 z =
        let a = next-zero (items o g) _ (sym (items-last o g) ∙ z) in
        let at = ends-alike a.0 in
        let e : file_end g ≡ length g = eqb-true _ _ (unless-zero _ 23 a.1) in
        items-last o (g ++ b)
        ∙ sym (skip (kept-none kept-all a.0) (sym (no _ 24 (ne_eqb (file_end (g ++ b)) (length (g ++ b)) (λ y. let n : ⊥ = omega (arith, longer) in n)))))

    -- what an accepted file lacks is cut off
    cut-1 : judge_for o (g ++ b) ≡ 0 → judge_for o g ≡ 1
    cut-1 z = items-last o g ∙ go kept-all
      where
        a : (items o (g ++ b) ≡ 0) × (unless (eqb (file_end (g ++ b)) (length (g ++ b))) 24 ≡ 0)
        a = next-zero (items o (g ++ b)) _ (sym (items-last o (g ++ b)) ∙ z)

        go : Kept (items o g) (items o (g ++ b)) → next (items o g) (unless (eqb (file_end g) (length g)) 24) ≡ 1
        go (cut e) = sym (halt 0 _ e)
        go (alike e) =
            let at = ends-alike (e ∙ a.0) in
            let f : file_end (g ++ b) ≡ length (g ++ b) = eqb-true _ _ (unless-zero _ 23 a.1) in
            absurd (let n : ⊥ = omega (arith, longer) in n)

-- an accepted file on its way
pub in-transit-for : (o : Profile) (f : List ℕ) → judge_for o f ≡ 0 → InTransitFor o f
in-transit-for o f z =
    record {
      cut = λ n h. cut-1 o (take n f) (drop n f) (omega (arith, length-drop n f)) (ap (judge_for o) (take-append-drop n f) ∙ z);
      followed = λ b h. followed-24 o f b h z;
    }

pub in-transit : (f : List ℕ) → judge f ≡ 0 → InTransit f
in-transit f z = in-transit-for Full f z
