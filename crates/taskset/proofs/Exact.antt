-- `accepted-exactly-for`: under each profile a file's number is 0 exactly if it keeps the rules of `specs/Rules`; `accepted-exactly` under the full one. In order: the mark; from acceptance to the rules;
-- the sections of a file that keeps them lie in it; from the rules to acceptance. Assumes nothing.
use mathlib.Core.Path.{◌≡◌, refl, sym, ap, ◌∙◌, subst}
use mathlib.Core.Bool.{Bool, true, false}
use mathlib.Core.Logic.{inl, inr}
use mathlib.Core.List.{List, [], ◌∷◌}
use Prim.Native.Nat.{ℕ, zero, suc, ◌+◌, ◌-◌, ◌*◌, ◌≤◌, ◌<◌}
use native.Mathlib.Omega.{arith}
use borrow.Author.Tests.{le-leb, leb-true, lt-ltb, ltb-true, eq-eqb, eqb-true, ne_eqb}
use lib.Dec.{ltb, leb, eqb}
use lib.ListN.{length, take}
use Rattle.verdict.specs.Verdict.{either, within, unless, first}
use Rattle.verdict.proofs.Verdict.{pick-false, yes, next-zero, next-none, unless-zero, pick-zero, both_true, either_true, inside, inside-true, first-zero, zero-first}
use Rattle.memory.specs.Memory.{byte, word, part}
use Rattle.code.specs.declared.Profile.{Profile}
use Rattle.code.specs.declared.Profile.TheVariants.{Full}
use Rattle.code.specs.Code.{judge_code_for}
use Rattle.code.proofs.Exact.{well-formed, accepted-code}
use Rattle.records.specs.File.{cores, core_place, data_size, count_place, variables, record_place, variable_at}
use Rattle.records.specs.Records.{present, core_refusal, variable_refusal, overlap, pair_refusal, overlap_refusal}
use Rattle.records.specs.Rules.{CoreRulesFor, VariableRules, Apart}
use Rattle.records.proofs.Exact.{core-rules, core-ok, variable-rules, variable-ok, apart, overlap-not}
use Rattle.taskset.specs.Judge.{has_mark, is_old, is_new, is_mark, head_refusal, variables_refusal, code_place, code_of, code_refusal, section_refusal, start_sections, start_place, pair_place}
use Rattle.taskset.specs.Judge.{start_in, least_in, pair_ok, start_pair_refusal, pairs_refusal, start_refusal, file_end, starts_refusal, codes_refusal, judge_for, judge}
use Rattle.taskset.specs.Rules.{Mark, PairRules, WellFormedFor, WellFormed}

-- ---- the mark

module _ (m n o p : ℕ) where
  pub marked-is : (f : List ℕ) → 4 ≤ length f → has_mark (m ∷ n ∷ o ∷ p ∷ []) f ≡ true → take 4 f ≡ m ∷ n ∷ o ∷ p ∷ []
  unfolding has_mark
  marked-is [] h z = absurd (let y : ⊥ = omega arith in y)
  marked-is (a ∷ []) h z = absurd (let y : ⊥ = omega arith in y)
  marked-is (a ∷ b ∷ []) h z = absurd (let y : ⊥ = omega arith in y)
  marked-is (a ∷ b ∷ c ∷ []) h z = absurd (let y : ⊥ = omega arith in y)
  marked-is (a ∷ b ∷ c ∷ d ∷ f) h z =
      let x = both_true (eqb a m) _ z in
      let y = both_true (eqb b n) _ x.1 in
      let w = both_true (eqb c o) _ y.1 in
      rw (eqb-true a m x.0, eqb-true b n y.0, eqb-true c o w.0, eqb-true d p w.1)

  pub is-marked : (f : List ℕ) → take 4 f ≡ m ∷ n ∷ o ∷ p ∷ [] → has_mark (m ∷ n ∷ o ∷ p ∷ []) f ≡ true
  unfolding has_mark
  is-marked [] e = absurd (let y : ◌≡◌ {A = ℕ} 0 1 = cc in let z : ⊥ = omega arith in z)
  is-marked (a ∷ []) e = absurd (let y : ◌≡◌ {A = ℕ} 0 1 = cc in let z : ⊥ = omega arith in z)
  is-marked (a ∷ b ∷ []) e = absurd (let y : ◌≡◌ {A = ℕ} 0 1 = cc in let z : ⊥ = omega arith in z)
  is-marked (a ∷ b ∷ c ∷ []) e = absurd (let y : ◌≡◌ {A = ℕ} 0 1 = cc in let z : ⊥ = omega arith in z)
  is-marked (a ∷ b ∷ c ∷ d ∷ f) e =
      let x : a ≡ m = cc in
      let y : b ≡ n = cc in
      let z : c ≡ o = cc in
      let w : d ≡ p = cc in
      rw (eq-eqb a m x, eq-eqb b n y, eq-eqb c o z, eq-eqb d p w)

pub mark-is : (f : List ℕ) → 4 ≤ length f → is_mark f ≡ true → Mark f
mark-is f h z = go (is_old f) refl
  where
    go : (b : Bool) → is_old f ≡ b → Mark f
    go true e = inl (marked-is 77 67 83 49 f h e)
    go false e = inr (marked-is 77 67 83 50 f h (ap (λ (b : Bool). either b (is_new f)) (sym e) ∙ z))

pub is-mark : (f : List ℕ) → Mark f → is_mark f ≡ true
is-mark f (inl e) = rw (is-marked 77 67 83 49 f e)
is-mark f (inr e) = rw (is-marked 77 67 83 50 f e, either_true (is_old f))

-- no file has both
pub old-not-new : (f : List ℕ) → is_old f ≡ true → is_new f ≡ false
unfolding has_mark
old-not-new f e =
    let a = both_true (eqb (byte f 0) 77) _ e in
    let b = both_true (eqb (byte f 1) 67) _ a.1 in
    let c = both_true (eqb (byte f 2) 83) _ b.1 in
    rw (a.0, b.0, c.0, ne_eqb (byte f 3) 50 (λ x. let n : ⊥ = omega (arith, eqb-true (byte f 3) 49 c.1) in n))

-- ---- from acceptance to the rules

-- the three sections of an accepted file
pub record Sound (o : Profile) (f : List ℕ) : Type 0 where
  pub head : head_refusal o f ≡ 0
  pub variables : variables_refusal f ≡ 0
  pub codes : codes_refusal o f ≡ 0

pub sound : (o : Profile) (f : List ℕ) → judge_for o f ≡ 0 → Sound o f
unfolding judge_for
sound o f z =
    let a = next-zero (head_refusal o f) _ z in
    let b = next-zero (variables_refusal f) _ a.1 in
    record { head = a.0; variables = b.0; codes = b.1 }

there : (f : List ℕ) (n : ℕ) → present f n ≡ 0 → n ≤ length f
there f n z = leb-true _ _ (unless-zero _ 0 z)

-- every item of n
every : (g : ℕ → ℕ) (n : ℕ) → first g (n - 0) 0 ≡ 0 → (i : ℕ) → i < n → g i ≡ 0
every g n z i h = first-zero g (n - 0) 0 z i (omega arith) (omega arith)

record Head (o : Profile) (f : List ℕ) : Type 0 where
  long : 4 ≤ length f
  mark : is_mark f ≡ true
  number : within 1 4 (cores f) ≡ true
  records : first (core_refusal o f) (cores f - 0) 0 ≡ 0

head : (o : Profile) (f : List ℕ) → head_refusal o f ≡ 0 → Head o f
unfolding head_refusal
head o f z =
    let a = next-zero (present f 4) _ z in
    let b = next-zero (unless (is_mark f) 2) _ a.1 in
    let c = next-zero (present f 5) _ b.1 in
    let d = next-zero (unless (within 1 4 (cores f)) 3) _ c.1 in
    record { long = there f 4 a.0; mark = unless-zero _ 1 b.0; number = unless-zero _ 2 d.0; records = d.1 }

core_at_lem : (o : Profile) (f : List ℕ) (k : ℕ) → core_refusal o f k ≡ 0 → CoreRulesFor o f k
unfolding core_refusal
core_at_lem o f k z = core-rules o f k (unless-zero _ 2 (next-zero (present f (core_place k + 6)) _ z).1)

record Variables (f : List ℕ) : Type 0 where
  number : variables f ≤ 64
  records : first (variable_refusal f) (variables f - 0) 0 ≡ 0
  pairs : first (overlap_refusal f) (variables f - 0) 0 ≡ 0

all-variables : (f : List ℕ) → variables_refusal f ≡ 0 → Variables f
unfolding variables_refusal
all-variables f z =
    let a = next-zero (present f (count_place f + 1)) _ z in
    let b = next-zero (unless (leb (variables f) 64) 4) _ a.1 in
    let c = next-zero (first (variable_refusal f) (variables f - 0) 0) _ b.1 in
    record { number = leb-true _ _ (unless-zero _ 3 b.0); records = c.0; pairs = c.1 }

variable-at : (f : List ℕ) (i : ℕ) → variable_refusal f i ≡ 0 → VariableRules f (variable_at f i)
unfolding variable_refusal
variable-at f i z = variable-rules f (variable_at f i) (unless-zero _ 3 (next-zero (present f (record_place f i + 12)) _ z).1)

pub pair-at : (f : List ℕ) → first (overlap_refusal f) (variables f - 0) 0 ≡ 0 → (i j : ℕ) → i < j → j < variables f → Apart (variable_at f i) (variable_at f j)
unfolding overlap_refusal pair_refusal
pair-at f z i j h l =
    apart _ _
    (pick-zero (overlap (variable_at f i) (variable_at f j)) 4
    (first-zero (pair_refusal f i) (variables f - (i + 1)) (i + 1) (every (overlap_refusal f) (variables f) z i (omega arith)) j (omega arith) (omega arith)))

record Section (o : Profile) (f : List ℕ) (p : ℕ) : Type 0 where
  size : within 1 8192 (word f p) ≡ true
  judged : judge_code_for o (part f (p + 2) (word f p)) ≡ 0

section : (o : Profile) (f : List ℕ) (p : ℕ) → section_refusal o f p ≡ 0 → Section o f p
unfolding section_refusal
section o f p z =
    let a = next-zero (present f (p + 2)) _ z in
    let b = next-zero (unless (within 1 8192 (word f p)) 6) _ a.1 in
    let c = next-zero (present f (p + 2 + word f p)) _ b.1 in
    record { size = unless-zero _ 5 b.0; judged = c.1 }

record Codes (o : Profile) (f : List ℕ) : Type 0 where
  sections : first (code_refusal o f) (cores f - 0) 0 ≡ 0
  starts : first (start_refusal f) (start_sections f - 0) 0 ≡ 0
  ends : file_end f ≡ length f

all_codes : (o : Profile) (f : List ℕ) → codes_refusal o f ≡ 0 → Codes o f
unfolding codes_refusal starts_refusal
all_codes o f z =
    let a = next-zero (first (code_refusal o f) (cores f - 0) 0) _ z in
    let b = next-zero (first (start_refusal f) (start_sections f - 0) 0) _ a.1 in
    record { sections = a.0; starts = b.0; ends = eqb-true _ _ (unless-zero _ 23 b.1) }

-- one start value, and the test of it

pub pair-rules : (f : List ℕ) (size p i : ℕ) → pair_ok f size p i ≡ true → PairRules f size p i
unfolding pair_ok least_in
pair-rules f size p i z =
    let a = both_true (ltb (start_in f p i) size) _ z in
    record { in-data = ltb-true _ _ a.0; rising = λ j e. let h = leb-true (start_in f p j + 1) (start_in f p i) (subst (λ (n : ℕ). leb (least_in f p n) (start_in f p i) ≡ true) e a.1) in omega (arith, h) }

pub pair_ok_lem : (f : List ℕ) (size p i : ℕ) → PairRules f size p i → pair_ok f size p i ≡ true
unfolding pair_ok least_in
pair_ok_lem f size p zero r = rw (lt-ltb _ _ r.in-data) (le-leb 0 (start_in f p 0) (omega arith))
pair_ok_lem f size p (suc i) r = rw (lt-ltb _ _ r.in-data) (le-leb (start_in f p i + 1) (start_in f p (suc i)) (omega (arith, r.rising i refl)))

-- the start values after the count at p
pairs-at : (f : List ℕ) (size p : ℕ) → pairs_refusal f size p ≡ 0 → (i : ℕ) → i < word f p → PairRules f size p i
unfolding pairs_refusal start_pair_refusal
pairs-at f size p z i h =
    let a = next-zero (present f (p + 2)) _ z in
    pair-rules f size p i (unless-zero _ 30 (next-zero (present f (pair_place p i + 3)) _ (every (start_pair_refusal f size p) (word f p) a.1 i h)).1)

pub keeps-rules-for : (o : Profile) (f : List ℕ) → judge_for o f ≡ 0 → WellFormedFor o f
keeps-rules-for o f z =
    record {
      mark = mark-is f h.long h.mark;
      some-core = n.0;
      most-cores = n.1;
      core-rules = λ k l. core_at_lem o f k (every (core_refusal o f) (cores f) h.records k l);
      most-variables = v.number;
      variable-rules = λ i l. variable-at f i (every (variable_refusal f) (variables f) v.records i l);
      no-overlap = pair-at f v.pairs;
      some-code = λ k l. (inside-true 1 8192 _ (at k l).size).0;
      most-code = λ k l. (inside-true 1 8192 _ (at k l).size).1;
      code-rules = λ k l. well-formed o (code_of f k) (at k l).judged;
      start-rules = λ k l. pairs-at f (data_size f k) (start_place f k) (every (start_refusal f) (start_sections f) c.starts k l);
      ends = c.ends;
    }
  where
    s : Sound o f
    s = sound o f z

    h : Head o f
    h = head o f s.head

    n : (1 ≤ cores f) × (cores f ≤ 4)
    n = inside-true 1 4 (cores f) h.number

    v : Variables f
    v = all-variables f s.variables

    c : Codes o f
    c = all_codes o f s.codes

    at : (k : ℕ) → k < cores f → Section o f (code_place f k)
    at k l = section o f (code_place f k) (every (code_refusal o f) (cores f) c.sections k l)

pub keeps-rules : (f : List ℕ) → judge f ≡ 0 → WellFormed f
keeps-rules f z = keeps-rules-for Full f z

-- ---- the sections of a file whose last one ends where it ends lie in it

code_up : (f : List ℕ) (k d : ℕ) → code_place f k ≤ code_place f (k + d)
unfolding code_place
code_up f k zero = rw (let e : k + 0 ≡ k = omega arith in e) (omega arith)
code_up f k (suc d) =
    let ih = code_up f k d in
    let e : k + suc d ≡ suc (k + d) = omega arith in
    rw e (omega arith)

start_up : (f : List ℕ) (k d : ℕ) → start_place f k ≤ start_place f (k + d)
unfolding start_place
start_up f k zero = rw (let e : k + 0 ≡ k = omega arith in e) (omega arith)
start_up f k (suc d) =
    let ih = start_up f k d in
    let e : k + suc d ≡ suc (k + d) = omega arith in
    rw e (omega arith)

module _ (f : List ℕ) (e : file_end f ≡ length f) where
  -- the start values of core k begin in the file, and end in it
  pub starts-begin : (k : ℕ) → k ≤ start_sections f → start_place f k ≤ length f
  starts-begin k h =
      let d : k + (start_sections f - k) ≡ start_sections f = omega arith in
      let u : start_place f k ≤ start_place f (k + (start_sections f - k)) = start_up f k (start_sections f - k) in
      let w : start_place f (k + (start_sections f - k)) ≡ length f = ap (start_place f) d ∙ e in
      omega arith

  pub starts-inside : (k : ℕ) → k < start_sections f → start_place f k + 2 + 3 * word f (start_place f k) ≤ length f
  unfolding start_place
  starts-inside k h = starts-begin (suc k) h

  -- core k's code begins in the file, and ends in it
  pub code-starts : (k : ℕ) → k ≤ cores f → code_place f k ≤ length f
  unfolding start_place
  code-starts k h =
      let d : k + (cores f - k) ≡ cores f = omega arith in
      let u : code_place f k ≤ code_place f (k + (cores f - k)) = code_up f k (cores f - k) in
      let w : code_place f (k + (cores f - k)) ≡ code_place f (cores f) = ap (code_place f) d in
      let l : code_place f (cores f) ≤ length f = starts-begin 0 (omega arith) in
      omega arith

  pub code_inside : (k : ℕ) → k < cores f → code_place f k + 2 + word f (code_place f k) ≤ length f
  unfolding code_place
  code_inside k h = code-starts (suc k) h

  -- so do the variables' records, and all before them
  pub records-inside : record_place f (variables f) ≤ length f
  unfolding code_place
  records-inside = code-starts 0 (omega arith)

-- ---- from the rules to acceptance

here : (f : List ℕ) (n : ℕ) → n ≤ length f → present f n ≡ 0
here f n h = yes _ 1 (le-leb _ _ h)

pub none : (g : ℕ → ℕ) (n : ℕ) → ((i : ℕ) → i < n → g i ≡ 0) → first g (n - 0) 0 ≡ 0
none g n h = zero-first g (n - 0) 0 (λ j a b. h j (omega arith))

module _ (o : Profile) (f : List ℕ) (w : WellFormedFor o f) where
  room : record_place f (variables f) ≤ length f
  room = records-inside f w.ends

  head-none : head_refusal o f ≡ 0
  unfolding head_refusal core_refusal
  head-none =
      next-none _ _ (here f 4 (omega (arith, room)))
      (next-none _ _ (yes _ 2 (is-mark f w.mark))
      (next-none _ _ (here f 5 (omega (arith, room)))
      (next-none _ _ (yes _ 3 (inside 1 4 (cores f) w.some-core w.most-cores))
      (none (core_refusal o f) (cores f)
      (λ k h. next-none _ _ (here f (core_place k + 6) (omega (arith, room))) (yes _ 3 (core-ok o f k (w.core-rules k h))))))))

  pair-none : (i j : ℕ) → i < j → j < variables f → pair_refusal f i j ≡ 0
  unfolding pair_refusal
  pair-none i j h l = pick-false _ 5 0 (overlap-not (variable_at f i) (variable_at f j) (w.no-overlap i j h l))

  variables-none : variables_refusal f ≡ 0
  unfolding variables_refusal variable_refusal overlap_refusal
  variables-none =
      next-none _ _ (here f (count_place f + 1) (omega (arith, room)))
      (next-none _ _ (yes _ 4 (le-leb _ _ w.most-variables))
      (next-none _ _
      (none (variable_refusal f) (variables f)
      (λ i h. next-none _ _ (here f (record_place f i + 12) (omega (arith, room))) (yes _ 4 (variable-ok f (variable_at f i) (w.variable-rules i h)))))
      (none (overlap_refusal f) (variables f)
      (λ i h. zero-first (pair_refusal f i) (variables f - (i + 1)) (i + 1) (λ j a b. pair-none i j (omega arith) (omega arith))))))

  starts_none : starts_refusal f ≡ 0
  unfolding starts_refusal pairs_refusal start_pair_refusal
  starts_none =
      next-none _ _
      (none (start_refusal f) (start_sections f)
      (λ k h.
      let l = starts-inside f w.ends k h in
      next-none _ _ (here f (start_place f k + 2) (omega (arith, l)))
      (none (start_pair_refusal f (data_size f k) (start_place f k)) (word f (start_place f k))
      (λ i m. next-none _ _ (here f (pair_place (start_place f k) i + 3) (omega (arith, l))) (yes _ 31 (pair_ok_lem f (data_size f k) (start_place f k) i (w.start-rules k h i m)))))))
      (yes _ 24 (eq-eqb _ _ w.ends))

  codes-none : codes_refusal o f ≡ 0
  unfolding codes_refusal section_refusal
  codes-none =
      next-none _ _
      (none (code_refusal o f) (cores f)
      (λ k h.
      next-none _ _ (here f (code_place f k + 2) (omega (arith, code_inside f w.ends k h)))
      (next-none _ _ (yes _ 6 (inside 1 8192 (word f (code_place f k)) (w.some-code k h) (w.most-code k h)))
      (next-none _ _ (here f (code_place f k + 2 + word f (code_place f k)) (code_inside f w.ends k h)) (accepted-code o (code_of f k) (w.code-rules k h))))))
      starts_none

  pub accepts : judge_for o f ≡ 0
  unfolding judge_for
  accepts = next-none _ _ head-none (next-none _ _ variables-none codes-none)

-- the two ways together
pub record ExactlyFor (o : Profile) (f : List ℕ) : Type 0 where
  pub rules : judge_for o f ≡ 0 → WellFormedFor o f
  pub accepted : WellFormedFor o f → judge_for o f ≡ 0

pub accepted-exactly-for : (o : Profile) (f : List ℕ) → ExactlyFor o f
accepted-exactly-for o f = record { rules = keeps-rules-for o f; accepted = accepts o f }

-- under the full profile
abbrev pub Exactly : List ℕ → Type 0
Exactly f = ExactlyFor Full f

pub accepted-exactly : (f : List ℕ) → Exactly f
accepted-exactly f = accepted-exactly-for Full f
