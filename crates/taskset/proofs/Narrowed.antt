-- `small-profile`: the number of a file under a profile beside that under the full one, item by item; so what any profile accepts the full one accepts
-- (`any-is-full`), and the small one accepts exactly what keeps its own two rules besides. In order: two judgements; one core's code; the file; the claim.
-- Assumes nothing.
use mathlib.Core.Path.{◌≡◌, refl, sym, ◌∙◌}
use mathlib.Core.Bool.{Bool, true, false}
use mathlib.Core.List.{List}
use Prim.Native.Nat.{ℕ, zero, suc, ◌+◌, ◌-◌, ◌≤◌}
use native.Mathlib.Omega.{arith}
use lib.Dec.{ltb}
use lib.ListN.{length}
use Rattle.verdict.specs.Verdict.{pick, next, unless, first}
use Rattle.verdict.proofs.Verdict.{yes, no}
use Rattle.code.specs.declared.Profile.{Profile}
use Rattle.code.specs.declared.Profile.TheVariants.{Full, Small}
use Rattle.code.specs.Flow.{after}
use Rattle.code.specs.Profiles.{types_at, carries, most_data}
use Rattle.code.specs.Code.{instruction_refusal, laid, judge_code_for}
use Rattle.records.specs.File.{cores}
use Rattle.records.specs.Records.{core_ok, core_refusal}
use Rattle.records.proofs.Exact.{core-rules, core-ok}
use Rattle.taskset.specs.Judge.{head_refusal, code_refusal, section_refusal, codes_refusal, judge_for, judge}
use Rattle.taskset.specs.Rules.{WellFormedFor}
use Rattle.taskset.specs.Profiles.{SmallRules, Narrowed, alike, much-data, wide_type, SmallProfile}
use Rattle.taskset.proofs.Exact.{keeps-rules-for, accepts}

-- ---- two judgements

narrowed-next : (a c : ℕ) {b d : ℕ} → Narrowed a c → Narrowed b d → Narrowed (next a b) (next c d)
unfolding next
narrowed-next zero zero h k = k
narrowed-next zero (suc c) (alike e) k = absurd (let y : ⊥ = omega arith in y)
narrowed-next zero (suc c) (much-data e) k = absurd (let y : ⊥ = omega arith in y)
narrowed-next zero (suc c) (wide_type e) k = absurd (let y : ⊥ = omega arith in y)
narrowed-next (suc a) zero (alike e) k = absurd (let y : ⊥ = omega arith in y)
narrowed-next (suc a) zero (much-data e) k = much-data e
narrowed-next (suc a) zero (wide_type e) k = wide_type e
narrowed-next (suc a) (suc c) (alike e) k = alike e
narrowed-next (suc a) (suc c) (much-data e) k = much-data e
narrowed-next (suc a) (suc c) (wide_type e) k = wide_type e

narrowed-each : (g h : ℕ → ℕ) → ((j : ℕ) → Narrowed (g j) (h j)) → (k i : ℕ) → Narrowed (first g k i) (first h k i)
unfolding first
narrowed-each g h n zero i = alike refl
narrowed-each g h n (suc k) i = narrowed-next (g i) (h i) (n i) (narrowed-each g h n k (i + 1))

-- ---- one core's code

module _ (o : Profile) where
  -- the profile's own judgement of an instruction comes last, and the full profile has none
  narrowed-types : (b : Bool) → Narrowed (unless b 27) 0
  unfolding unless
  narrowed-types true = alike refl
  narrowed-types false = wide_type refl

  narrowed-instruction : (c : List ℕ) (p : ℕ) → Narrowed (instruction_refusal o c p) (instruction_refusal Full c p)
  unfolding instruction_refusal unless
  narrowed-instruction c p = narrowed-next _ _ (alike refl) (narrowed-types (carries o (types_at c p)))

  narrowed-laid : (k : ℕ) (c : List ℕ) (p : ℕ) → Narrowed (laid o k c p) (laid Full k c p)
  unfolding laid pick
  narrowed-laid zero c p = alike refl
  narrowed-laid (suc k) c p = go (narrowed-laid k c (after c p)) (ltb p (length c)) refl
    where
      go : Narrowed (laid o k c (after c p)) (laid Full k c (after c p)) → (b : Bool) → ltb p (length c) ≡ b → Narrowed (laid o (suc k) c p) (laid Full (suc k) c p)
      go ih true e = rw e (narrowed-next _ _ (narrowed-instruction c p) ih)
      go ih false e = rw e (alike refl)

  narrowed-code : (c : List ℕ) → Narrowed (judge_code_for o c) (judge_code_for Full c)
  unfolding judge_code_for
  narrowed-code c = narrowed-next _ _ (narrowed-laid (length c) c 0) (alike refl)

  -- ---- the file

  less : most_data o ≤ 4096
  less = go o refl
    where
      go : (x : Profile) → o ≡ x → most_data o ≤ 4096
      go Full e = rw e (omega arith)
      go Small e = rw e (omega arith)

  core-full : (f : List ℕ) (k : ℕ) → core_ok o f k ≡ true → core_ok Full f k ≡ true
  core-full f k z =
      let r = core-rules o f k z in
      core-ok Full f k (record { some-data = r.some-data; most-data = omega (arith, r.most-data, less); inputs = r.inputs; some-limit = r.some-limit })

  narrowed-core : (f : List ℕ) (k : ℕ) → Narrowed (core_refusal o f k) (core_refusal Full f k)
  unfolding core_refusal
  narrowed-core f k = narrowed-next _ _ (alike refl) (go (core_ok o f k) refl)
    where
      go : (b : Bool) → core_ok o f k ≡ b → Narrowed (unless (core_ok o f k) 3) (unless (core_ok Full f k) 3)
      go true e = alike (yes _ 3 e ∙ sym (yes _ 3 (core-full f k e)))
      go false e = much-data (no _ 3 e)

  narrowed-head : (f : List ℕ) → Narrowed (head_refusal o f) (head_refusal Full f)
  unfolding head_refusal
  narrowed-head f =
      narrowed-next _ _ (alike refl)
      (narrowed-next _ _ (alike refl)
      (narrowed-next _ _ (alike refl)
      (narrowed-next _ _ (alike refl) (narrowed-each (core_refusal o f) (core_refusal Full f) (narrowed-core f) (cores f - 0) 0))))

  narrowed-section : (f : List ℕ) (p : ℕ) → Narrowed (section_refusal o f p) (section_refusal Full f p)
  unfolding section_refusal
  narrowed-section f p = narrowed-next _ _ (alike refl) (narrowed-next _ _ (alike refl) (narrowed-next _ _ (alike refl) (narrowed-code _)))

  narrowed-codes : (f : List ℕ) → Narrowed (codes_refusal o f) (codes_refusal Full f)
  unfolding codes_refusal
  narrowed-codes f =
      narrowed-next _ _ (narrowed-each (code_refusal o f) (code_refusal Full f) (λ k. narrowed-section f _) (cores f - 0) 0) (alike refl)

  pub narrowed : (f : List ℕ) → Narrowed (judge_for o f) (judge f)
  unfolding judge_for
  narrowed f = narrowed-next _ _ (narrowed-head f) (narrowed-next _ _ (alike refl) (narrowed-codes f))

  pub any-is-full : (f : List ℕ) → judge_for o f ≡ 0 → judge f ≡ 0
  any-is-full f z = go (narrowed f)
    where
      go : Narrowed (judge_for o f) (judge f) → judge f ≡ 0
      go (alike e) = sym e ∙ z
      go (much-data e) = absurd (let y : ⊥ = omega arith in y)
      go (wide_type e) = absurd (let y : ⊥ = omega arith in y)

-- ---- the claim

pub small-is-full : (f : List ℕ) → judge_for Small f ≡ 0 → judge f ≡ 0
small-is-full f z = any-is-full Small f z

small-rules : (f : List ℕ) → judge_for Small f ≡ 0 → SmallRules f
small-rules f z =
    let w = keeps-rules-for Small f z in
    record { most-data = λ k h. (w.core-rules k h).most-data; types = λ k h. (w.code-rules k h).carried refl }

small-accepted : (f : List ℕ) → judge f ≡ 0 → SmallRules f → judge_for Small f ≡ 0
small-accepted f z s = accepts Small f small
  where
    w : WellFormedFor Full f
    w = keeps-rules-for Full f z

    small : WellFormedFor Small f
    small =
        record {
          mark = w.mark;
          some-core = w.some-core;
          most-cores = w.most-cores;
          core-rules = λ k h. let r = w.core-rules k h in record { some-data = r.some-data; most-data = s.most-data k h; inputs = r.inputs; some-limit = r.some-limit };
          most-variables = w.most-variables;
          variable-rules = w.variable-rules;
          no-overlap = w.no-overlap;
          some-code = w.some-code;
          most-code = w.most-code;
          code-rules = λ k h.
              let r = w.code-rules k h in
              record { instructions = r.instructions; carried = λ _. s.types k h; targets = r.targets; last = r.last };
          start-rules = w.start-rules;
          ends = w.ends;
        }

pub small-profile : (f : List ℕ) → SmallProfile f
small-profile f = record { full = small-is-full f; rules = small-rules f; accepted = small-accepted f; number = narrowed Small f }
