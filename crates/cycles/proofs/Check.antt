-- The test of the condition. In order: a walk over the variables; that the answer is exact; what each return of the test shows. Not
-- here: pairs and rings as the code tries them (`Rings`). Assumes nothing.
use mathlib.Core.Path.{◌≡◌, refl, sym, ap, ◌∙◌}
use mathlib.Core.Bool.{Bool, true, false, not}
use mathlib.Core.List.{List}
use Prim.Native.Nat.{ℕ, suc, ◌+◌, ◌-◌, ◌≤◌, ◌<◌}
use native.Mathlib.Numerals.{add-one}
use native.Mathlib.Omega.{arith}
use lib.Dec.{eqb}
use borrow.Author.Tests.{eq-eqb, ne_eqb, eqb-true, eqb-false}
use Rattle.std.specs.Prelude.{Result, Ok, Err}
use Rattle.verdict.specs.Refusals.{refusal_of}
use Rattle.verdict.specs.declared.Refusal.{Refusal}
use Rattle.verdict.specs.Verdict.{pick, both, either}
use Rattle.verdict.proofs.Truth.{holds, tested, fails, either-skip, either-stop, not-not}
use Rattle.verdict.proofs.Verdict.{absurd-bool}
use Rattle.protocol.specs.Variables.{Variable, reads_it, writes_it}
use Rattle.protocol.specs.Cycles.{reads_from, line_between, OneWay, NoRing, is_one_way, no_ring}
use Rattle.protocol.proofs.Tests.{low_reads, low-lines, one_way, way-one, no-ring, ring-no}
use Rattle.records.specs.File.{variables, variable_at}
use Rattle.taskset.specs.Judge.{judge}
use Rattle.taskset.specs.Task.{listed, variables_of}
use Rattle.verdict.specs.Refusals.{numbered}
use Rattle.cycles.specs.Check.{lines_of, lines_refusal, lines_byte, Checked}
use Rattle.cycles.specs.declared.Lines.{Lines}
use Rattle.cycles.specs.declared.Lines.TheVariants.{Free, EachOther, Ringed}

-- ---- a walk over the variables

module _ (f : List ℕ) (r w : ℕ) where
  -- core r reads variable i, and core w writes it
  abbrev pub passes : ℕ → Bool
  passes i = both (reads_it r (variable_at f i)) (writes_it w (variable_at f i))

  -- none of the first i is such a one
  pub record NoneBefore (i : ℕ) : Type 0 where
    pub inside : i ≤ variables f
    pub rest : reads_from (variables_of f) r w ≡ reads_from (listed (variable_at f) (variables f - i) i) r w

  pub none-at-first : NoneBefore 0
  unfolding variables_of
  none-at-first =
      let e : variables f ≡ variables f - 0 = omega arith in
      record { inside = omega arith; rest = ap (λ (n : ℕ). reads_from (listed (variable_at f) n 0) r w) e }

  here : (i : ℕ) → i < variables f → reads_from (listed (variable_at f) (variables f - i) i) r w ≡ either (passes i) (reads_from (listed (variable_at f) (variables f - (i + 1)) (i + 1)) r w)
  unfolding listed
  here i h =
      let e : variables f - i ≡ suc (variables f - (i + 1)) = omega arith in
      ap (λ (n : ℕ). reads_from (listed (variable_at f) n i) r w) e
      ∙ ap (λ (n : ℕ). either (passes i) (reads_from (listed (variable_at f) (variables f - (i + 1)) n) r w)) (sym (add-one i))

  pub found_here : (i : ℕ) → NoneBefore i → i < variables f → passes i ≡ true → true ≡ reads_from (variables_of f) r w
  found_here i l h e = either-stop _ e ∙ sym (here i h) ∙ sym l.rest

  pub none_here : (i : ℕ) → NoneBefore i → i < variables f → passes i ≡ false → NoneBefore (i + 1)
  none_here i l h e = record { inside = omega arith; rest = l.rest ∙ here i h ∙ sym (either-skip e refl) }

  pub none_at_all : (i : ℕ) → NoneBefore i → variables f ≤ i → false ≡ reads_from (variables_of f) r w
  unfolding listed
  none_at_all i l h =
      let e : variables f - i ≡ 0 = omega arith in
      sym (l.rest ∙ ap (λ (n : ℕ). reads_from (listed (variable_at f) n i) r w) e)

-- ---- the answer is exact

-- the answer by its three tests
unfoldable answer : Bool → Bool → Bool → ℕ → Result Lines ℕ
answer accepted one none n = pick accepted (pick one (pick none (Ok Free) (Ok Ringed)) (Ok EachOther)) (Err n)

-- a number for each case, so that cases differ as numbers do
unfoldable case : Result Lines ℕ → ℕ
case x = lines_byte 3 x

free-tests : (a o n : Bool) (m : ℕ) → case (answer a o n m) ≡ 0 → (a ≡ true) × (o ≡ true) × (n ≡ true)
unfolding answer pick case
free-tests true true true m e = (refl, refl, refl)
free-tests true true false m e = absurd (let z : ⊥ = omega arith in z)
free-tests true false n m e = absurd (let z : ⊥ = omega arith in z)
free-tests false o n m e = absurd (let z : ⊥ = omega arith in z)

each-other-tests : (a o n : Bool) (m : ℕ) → case (answer a o n m) ≡ 1 → (a ≡ true) × (o ≡ false)
unfolding answer pick case
each-other-tests true true true m e = absurd (let z : ⊥ = omega arith in z)
each-other-tests true true false m e = absurd (let z : ⊥ = omega arith in z)
each-other-tests true false n m e = (refl, refl)
each-other-tests false o n m e = absurd (let z : ⊥ = omega arith in z)

ringed-tests : (a o n : Bool) (m : ℕ) → case (answer a o n m) ≡ 2 → (a ≡ true) × (o ≡ true) × (n ≡ false)
unfolding answer pick case
ringed-tests true true true m e = absurd (let z : ⊥ = omega arith in z)
ringed-tests true true false m e = (refl, refl, refl)
ringed-tests true false n m e = absurd (let z : ⊥ = omega arith in z)
ringed-tests false o n m e = absurd (let z : ⊥ = omega arith in z)

refused-tests : (a o n : Bool) (m : ℕ) → case (answer a o n m) ≡ 3 → a ≡ false
unfolding answer pick case
refused-tests true true true m e = absurd (let z : ⊥ = omega arith in z)
refused-tests true true false m e = absurd (let z : ⊥ = omega arith in z)
refused-tests true false n m e = absurd (let z : ⊥ = omega arith in z)
refused-tests false o n m e = refl

module _ (f : List ℕ) where
  abbrev vs : List Variable
  vs = variables_of f

  abbrev one : Bool
  one = is_one_way (reads_from vs)

  abbrev none : Bool
  none = no_ring (line_between vs)

  abbrev told : Bool → Bool → Bool → Result Lines ℕ
  told a o n = answer a o n (judge f)

  is-answer : lines_of f ≡ told (eqb (judge f) 0) one none
  unfolding lines_of answer
  is-answer = refl

  -- the tests are those of the definitions
  one_holds : one ≡ true → OneWay (reads_from vs)
  one_holds e = one_way (reads_from vs) (low_reads vs) (tested one e)

  none-holds : none ≡ true → NoRing (line_between vs)
  none-holds e = no-ring (line_between vs) (low-lines vs) (tested none e)

  one-true : OneWay (reads_from vs) → one ≡ true
  one-true h = holds one (way-one (reads_from vs) h)

  none_true : NoRing (line_between vs) → none ≡ true
  none_true h = holds none (ring-no (line_between vs) h)

  case-of : (x : Result Lines ℕ) → lines_of f ≡ x → case (told (eqb (judge f) 0) one none) ≡ case x
  case-of x e = ap case (sym is-answer ∙ e)

  -- the answer where the file is accepted
  accepted-is : judge f ≡ 0 → lines_of f ≡ told true one none
  accepted-is e = is-answer ∙ ap (λ (b : Bool). told b one none) (eq-eqb (judge f) 0 e)

  pub checked : Checked f
  unfolding answer pick case
  checked = record {
    refused = λ n. (
      λ e. let a : eqb (judge f) 0 ≡ false = refused-tests (eqb (judge f) 0) one none (judge f) (case-of (Err n) e) in
          let q : judge f ≡ n = ap lines_refusal (sym (is-answer ∙ ap (λ (b : Bool). told b one none) a) ∙ e) in
          (q, λ z. eqb-false (judge f) 0 a (q ∙ z)),
      λ h. is-answer ∙ ap (λ (b : Bool). told b one none) (ne_eqb (judge f) 0 (λ z. h.1 (sym h.0 ∙ z))) ∙ ap Err h.0,
    );
    free = (
      λ e. let t = free-tests (eqb (judge f) 0) one none (judge f) (case-of (Ok Free) e) in
          (eqb-true (judge f) 0 t.0, record { one_way = one_holds t.1; no-ring = none-holds t.2 }),
      λ h. accepted-is h.0 ∙ (λ z. told true (one-true h.1.one_way z) (none_true h.1.no-ring z)),
    );
    each-other = (
      λ e. let t = each-other-tests (eqb (judge f) 0) one none (judge f) (case-of (Ok EachOther) e) in
          (eqb-true (judge f) 0 t.0, λ h. absurd-bool (sym t.1 ∙ one-true h)),
      λ h. accepted-is h.0 ∙ ap (λ (o : Bool). told true o none) (fails one (λ t. h.1 (one_holds (holds one t)))),
    );
    ringed = (
      λ e. let t = ringed-tests (eqb (judge f) 0) one none (judge f) (case-of (Ok Ringed) e) in
          (eqb-true (judge f) 0 t.0, one_holds t.1, λ h. absurd-bool (sym t.2 ∙ none_true h)),
      λ h. accepted-is h.0 ∙ (λ z. told true (one-true h.1 z) (fails none (λ t. h.2 (none-holds (holds none t))) z)),
    );
  }

  -- ---- what each return of the test shows

  pub told-refused : (judge f ≡ 0 → ⊥) → Err (judge f) ≡ lines_of f
  told-refused n = sym ((checked.refused (judge f)).1 (refl, n))

  module _ (e : judge f ≡ 0) where
    pub told-each-other : true ≡ not one → Ok EachOther ≡ lines_of f
    unfolding answer pick
    told-each-other h = sym (accepted-is e ∙ ap (λ (o : Bool). told true o none) (sym (not-not one) ∙ ap not (sym h)))

    module _ (h : false ≡ not one) where
      one_told : one ≡ true
      one_told = sym (not-not one) ∙ ap not (sym h)

      pub told-ringed : true ≡ not none → Ok Ringed ≡ lines_of f
      unfolding answer pick
      told-ringed k = sym (accepted-is e ∙ (λ z. told true (one_told z) ((sym (not-not none) ∙ ap not (sym k)) z)))

      pub told_free : false ≡ not none → Ok Free ≡ lines_of f
      unfolding answer pick
      told_free k = sym (accepted-is e ∙ (λ z. told true (one_told z) ((sym (not-not none) ∙ ap not (sym k)) z)))

-- ---- the numbers of an answer

pub told-number : (r : Result Lines Refusal) → refusal_of r ≡ lines_refusal (numbered r)
told-number (Ok l) = refl
told-number (Err x) = refl

-- its byte is the same, whether the refusal is told by name or by number
pub told-byte : (x : ℕ) (r : Result Lines Refusal) → lines_byte x r ≡ lines_byte x (numbered r)
told-byte x (Ok l) = refl
told-byte x (Err e) = refl
