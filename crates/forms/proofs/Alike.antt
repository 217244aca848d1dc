-- Two files with the same bytes after the mark, those past the end of the shorter one being 0: every reader finds the same in both, and what one keeps of the
-- rules of cores, variables and code the other keeps. In order: bytes; places; records; code; the rules. Assumes nothing.
use mathlib.Core.Path.{◌≡◌, refl, sym, ap, ap₂, ◌∙◌, subst}
use mathlib.Core.Bool.{Bool, true, false}
use mathlib.Core.List.{List, ◌∷◌, ◌++◌}
use Prim.Native.Nat.{ℕ, zero, suc, ◌+◌, ◌-◌, ◌*◌, ◌≤◌, ◌<◌}
use native.Mathlib.Omega.{arith}
use borrow.Author.Tests.{ltb-true, ltb-false}
use lib.Dec.{ltb}
use lib.ListN.{length, take, drop, get_or-append, get_or-eq_default}
use lib.Seq.{get_or-take, get_or-drop, get_or-append-add, ext_get_or}
use Rattle.memory.specs.Memory.{byte, word, part}
use Rattle.memory.proofs.Laws.{length_part}
use Rattle.memory.proofs.Number.{read_word}
use Rattle.protocol.specs.Variables.{Variable}
use Rattle.protocol.specs.Fresh.{zeros}
use Rattle.records.specs.File.{cores, core_place, data_size, input_size, limit, variables, record_place, variable_in, variable_at}
use Rattle.code.specs.Rules.{WellFormedCode}
use Rattle.records.specs.Rules.{VariableRules, Apart}
use Rattle.taskset.specs.Judge.{code_place, code_of, start_sections, start_place, file_end}
use Rattle.taskset.specs.Rules.{Mark, PairRules, WellFormed}
use Rattle.taskset.specs.Task.{listed, variables_of}
use Rattle.taskset.proofs.Exact.{code_inside}
use Rattle.taskset.proofs.Starts.{byte-zeros}

pub record Alike (f g : List ℕ) : Type 0 where
  pub bytes : (p : ℕ) → 4 ≤ p → byte f p ≡ byte g p

-- bytes of 0 that follow are read as if they were there
pub alike-zeros : (a b c d m n o p : ℕ) (body : List ℕ) (z : ℕ) → Alike (a ∷ b ∷ c ∷ d ∷ body) (m ∷ n ∷ o ∷ p ∷ (body ++ zeros z))
alike-zeros a b c d m n o p body z = record { bytes = λ q h. go q h }
  where
    rest : (r : ℕ) → byte body r ≡ byte (body ++ zeros z) r
    rest r = cases (ltb r (length body)) refl
      where
        cases : (t : Bool) → ltb r (length body) ≡ t → byte body r ≡ byte (body ++ zeros z) r
        cases true e = sym (get_or-append body (zeros z) 0 r (ltb-true r (length body) e))
        cases false e =
            let l : length body ≤ r = ltb-false r (length body) e in
            get_or-eq_default body 0 l
            ∙ sym (ap (byte (body ++ zeros z)) (let q : r ≡ length body + (r - length body) = omega arith in q)
            ∙ get_or-append-add body (zeros z) (r - length body) 0
            ∙ byte-zeros z (r - length body))

    go : (q : ℕ) → 4 ≤ q → byte (a ∷ b ∷ c ∷ d ∷ body) q ≡ byte (m ∷ n ∷ o ∷ p ∷ (body ++ zeros z)) q
    go zero h = absurd (let y : ⊥ = omega arith in y)
    go (suc zero) h = absurd (let y : ⊥ = omega arith in y)
    go (suc (suc zero)) h = absurd (let y : ⊥ = omega arith in y)
    go (suc (suc (suc zero))) h = absurd (let y : ⊥ = omega arith in y)
    go (suc (suc (suc (suc r)))) h = rest r

pub turned : {f g : List ℕ} → Alike f g → Alike g f
turned x = record { bytes = λ p h. sym (x.bytes p h) }

part_at : (s : List ℕ) (p n j : ℕ) → j < n → byte (part s p n) j ≡ byte s (p + j)
unfolding part
part_at s p n j h = rw (get_or-take, get_or-drop)

-- code and start values stand after the records; each code before where the last one ends
pub code-least : (f : List ℕ) (k : ℕ) → record_place f (variables f) ≤ code_place f k
unfolding code_place
code-least f zero = omega arith
code-least f (suc k) = omega (arith, code-least f k)

pub start-least : (f : List ℕ) (k : ℕ) → record_place f (variables f) ≤ start_place f k
unfolding start_place
start-least f zero = code-least f (cores f)
start-least f (suc k) = omega (arith, start-least f k)

pub code-rises : (f : List ℕ) (k d : ℕ) → code_place f k ≤ code_place f (k + d)
unfolding code_place
code-rises f k zero = rw (let e : k + 0 ≡ k = omega arith in e) (omega arith)
code-rises f k (suc d) =
    let ih = code-rises f k d in
    let e : k + suc d ≡ suc (k + d) = omega arith in
    rw e (omega arith)

code-end : (f : List ℕ) (k : ℕ) → k < cores f → code_place f k + 2 + word f (code_place f k) ≤ code_place f (cores f)
unfolding code_place
code-end f k h =
    let r : code_place f (suc k) ≤ code_place f (suc k + (cores f - suc k)) = code-rises f (suc k) (cores f - suc k) in
    let e : code_place f (suc k + (cores f - suc k)) ≡ code_place f (cores f) = ap (code_place f) (let q : suc k + (cores f - suc k) ≡ cores f = omega arith in q) in
    omega arith

module _ (f g : List ℕ) (x : Alike f g) where
  pub word-alike : (p : ℕ) → 4 ≤ p → word f p ≡ word g p
  word-alike p h = read_word f p ∙ ap₂ (λ (a b : ℕ). a + 256 * b) (x.bytes p h) (x.bytes (p + 1) (omega arith)) ∙ sym (read_word g p)

  pub part-alike : (p n : ℕ) → 4 ≤ p → p + n ≤ length f → p + n ≤ length g → part f p n ≡ part g p n
  part-alike p n h l m =
      ext_get_or 0 (part f p n) (part g p n) (length_part f p n l ∙ sym (length_part g p n m))
      (λ j i. let b : j < n = omega (arith, length_part f p n l) in part_at f p n j b ∙ x.bytes (p + j) (omega arith) ∙ sym (part_at g p n j b))

  -- ---- places

  pub cores-alike : cores f ≡ cores g
  cores-alike = x.bytes 4 (omega arith)

  pub data-alike : (k : ℕ) → data_size f k ≡ data_size g k
  data-alike k = word-alike (core_place k) (omega arith)

  pub input-alike : (k : ℕ) → input_size f k ≡ input_size g k
  input-alike k = word-alike (core_place k + 2) (omega arith)

  pub limit-alike : (k : ℕ) → limit f k ≡ limit g k
  limit-alike k = word-alike (core_place k + 4) (omega arith)

  pub variables-alike : variables f ≡ variables g
  variables-alike = x.bytes (core_place (cores f)) (omega arith) ∙ ap (λ (n : ℕ). byte g (core_place n)) cores-alike

  pub record-alike : (i : ℕ) → record_place f i ≡ record_place g i
  record-alike i = ap (λ (n : ℕ). core_place n + 1 + 12 * i) cores-alike

  pub code-place-alike : (k : ℕ) → code_place f k ≡ code_place g k
  unfolding code_place
  code-place-alike zero = ap₂ (λ (n m : ℕ). core_place n + 1 + 12 * m) cores-alike variables-alike
  code-place-alike (suc k) =
      let ih = code-place-alike k in
      ap₂ (λ (p w : ℕ). p + 2 + w) ih (word-alike (code_place f k) (omega (arith, code-least f k)) ∙ ap (word g) ih)

  pub start-place-alike : (k : ℕ) → start_place f k ≡ start_place g k
  unfolding start_place
  start-place-alike zero = code-place-alike (cores f) ∙ ap (code_place g) cores-alike
  start-place-alike (suc k) =
      let ih = start-place-alike k in
      ap₂ (λ (p w : ℕ). p + 2 + 3 * w) ih (word-alike (start_place f k) (omega (arith, start-least f k)) ∙ ap (word g) ih)

  -- ---- records

  pub variable-alike : (i : ℕ) → variable_at f i ≡ variable_at g i
  variable-alike i =
      at (record_place f i) (omega arith) ∙ ap (variable_in g) (record-alike i)
    where
      at : (p : ℕ) → 4 ≤ p → variable_in f p ≡ variable_in g p
      at p h =
          rw (
            word-alike p (omega arith),
            x.bytes (p + 2) (omega arith),
            x.bytes (p + 3) (omega arith),
            word-alike (p + 4) (omega arith),
            word-alike (p + 6) (omega arith),
            word-alike (p + 8) (omega arith),
            word-alike (p + 10) (omega arith),
          )

  pub all-variables-alike : variables_of f ≡ variables_of g
  unfolding variables_of
  all-variables-alike = ap₂ (λ (v : ℕ → Variable) (n : ℕ). listed v n 0) (λ i k. variable-alike k i) variables-alike

  -- ---- code: of a core whose code lies in both files, and of one that has none

  pub code_alike : (k : ℕ) → code_place f k + 2 + word f (code_place f k) ≤ length f → code_place f k + 2 + word f (code_place f k) ≤ length g → code_of f k ≡ code_of g k
  code_alike k l m =
      part-alike (code_place f k + 2) (word f (code_place f k)) (omega (arith, code-least f k)) l m
      ∙ ap₂ (λ (p n : ℕ). part g (p + 2) n) (code-place-alike k) (word-alike (code_place f k) (omega (arith, code-least f k)) ∙ ap (word g) (code-place-alike k))

  pub no-code-alike : (k : ℕ) → word f (code_place f k) ≡ 0 → code_of f k ≡ code_of g k
  unfolding part
  no-code-alike k z =
      ap (λ (n : ℕ). take n (drop (code_place f k + 2) f)) z
      ∙ sym (ap (λ (n : ℕ). take n (drop (code_place g k + 2) g)) (sym (word-alike (code_place f k) (omega (arith, code-least f k)) ∙ ap (word g) (code-place-alike k)) ∙ z))

  -- ---- the rules

  pub well-alike : WellFormed f → start_place f 0 ≤ length g → Mark g
      → ((k : ℕ) → k < start_sections g → (i : ℕ) → i < word g (start_place g k) → PairRules g (data_size g k) (start_place g k) i) → file_end g ≡ length g → WellFormed g
  unfolding start_place
  well-alike w room mark starts ends =
      record {
        mark = mark;
        some-core = subst (λ (n : ℕ). 1 ≤ n) cores-alike w.some-core;
        most-cores = subst (λ (n : ℕ). n ≤ 4) cores-alike w.most-cores;
        core-rules = λ k h.
            let r = w.core-rules k (known k h) in
            record {
              some-data = subst (λ (n : ℕ). 1 ≤ n) (data-alike k) r.some-data;
              most-data = subst (λ (n : ℕ). n ≤ 4096) (data-alike k) r.most-data;
              inputs = omega (arith, r.inputs, data-alike k, input-alike k);
              some-limit = subst (λ (n : ℕ). 1 ≤ n) (limit-alike k) r.some-limit;
            };
        most-variables = subst (λ (n : ℕ). n ≤ 64) variables-alike w.most-variables;
        variable-rules = λ i h. variable-rules (variable_at g i) (subst (VariableRules f) (variable-alike i) (w.variable-rules i (omega (arith, variables-alike))));
        no-overlap = λ i j h l. subst (λ (v : Variable). Apart v (variable_at g j)) (variable-alike i) (subst (Apart (variable_at f i)) (variable-alike j) (w.no-overlap i j h (omega (arith, variables-alike))));
        some-code = λ k h. subst (λ (n : ℕ). 1 ≤ n) (length-alike k) (w.some-code k (known k h));
        most-code = λ k h. subst (λ (n : ℕ). n ≤ 8192) (length-alike k) (w.most-code k (known k h));
        code-rules = λ k h. subst WellFormedCode (code_alike k (code_inside f w.ends k (known k h)) (omega (arith, code-end f k (known k h), room))) (w.code-rules k (known k h));
        start-rules = starts;
        ends = ends;
      }
    where
      known : (k : ℕ) → k < cores g → k < cores f
      known k h = omega (arith, cores-alike)

      length-alike : (k : ℕ) → word f (code_place f k) ≡ word g (code_place g k)
      length-alike k = word-alike (code_place f k) (omega (arith, code-least f k)) ∙ ap (word g) (code-place-alike k)

      variable-rules : (v : Variable) → VariableRules f v → VariableRules g v
      variable-rules v r =
          record {
            width = r.width;
            writer = r.writer;
            one_way = r.one_way;
            known = λ k t. omega (arith, r.known k t, cores-alike);
            in-shared = r.in-shared;
            in-data = λ k t. omega (arith, r.in-data k t, data-alike k);
            past-inputs = λ k t. omega (arith, r.past-inputs k t, input-alike k);
            unnamed = r.unnamed;
          }
