-- What a call on a lent table leaves: what was copied out, what was written back. Of a refused call the answer has the semaphore that was given,
-- so that what `save` leaves is the answer's either way. Assumes nothing.
use mathlib.Core.Path.{◌≡◌, refl, sym, ap, ◌∙◌}
use mathlib.Core.List.{List, []}
use Prim.Native.Nat.{ℕ}
use lib.Dec.{eqb, leb}
use Rattle.verdict.specs.Verdict.{pick, next}
use Rattle.verdict.proofs.Verdict.{pick_true, pick-false, by-pick}
use Rattle.code.specs.declared.Profile.{Profile}
use Rattle.semaphore.specs.declared.Semaphore.{Semaphore}
use Rattle.runner.specs.declared.RunAnswer.{RunAnswer}
use Rattle.runner.specs.Runs.{Left, left_as}
use Rattle.records.specs.File.{cores}
use Rattle.taskset.specs.Judge.{judge_for, judge}
use Rattle.machine.specs.Calls.{answer_of, table_of, fresh_call_for, fresh_call, run_call, step_call}
use Rattle.rerun.specs.Calls.{rerun_call}
use Rattle.snapshot.specs.declared.CoreRecord.{CoreRecord}
use Rattle.snapshot.specs.declared.Table.{Table}
use Rattle.snapshot.specs.declared.After.{After}
use Rattle.snapshot.specs.Snapshot.{held, accepted_of, refused_of, after_of, TableLeft, table_left, on_table, made_on, step_table, run_table, taken_table, fresh_table_for, fresh_table, rerun_table}
use Rattle.rikzord.specs.Lent.{loaded, saved, saved_semaphore, lent, written_back, step_lent, run_lent, taken_lent, fresh_lent, fresh_lent_for, rerun_lent}

-- what `save` leaves of an answer y: the table, the semaphore and the number
abbrev pub WrittenBack : List CoreRecord → Semaphore → After → ℕ → List CoreRecord → Semaphore → Type 0
WrittenBack ys p y n ys' p' = (ys' ≡ saved ys y) × ((p' ≡ saved_semaphore p y) × (n ≡ y.refusal))

-- of a refused call the answer's semaphore is the given one; of any other the answer's is stored
pub semaphore-kept : (x : Table) (p : Semaphore) (r : RunAnswer) → saved_semaphore p (after_of x p r) ≡ (after_of x p r).semaphore
semaphore-kept x p r =
    by-pick (λ (y : After). saved_semaphore p y ≡ y.semaphore) (eqb r.refusal 0) (accepted_of x r.state) (refused_of x p r.refusal)
    (λ _. pick_true _ _ _ refl) (λ e. pick-false _ _ _ e)

module _ (ys : List CoreRecord) (p : Semaphore) (x : Table) (l : Left) (y : After) (n : ℕ) (ys' : List CoreRecord) (p' : Semaphore) (d' sh' list' : List ℕ) where
  pub written_back_lem : table_left y d' sh' list' ≡ on_table x p l → WrittenBack ys p y n ys' p' → lent n ys' p' d' sh' list' ≡ written_back ys (on_table x p l)
  written_back_lem e w =
      let ey : y ≡ after_of x p l.answer = ap (λ (z : TableLeft). z.after) e in
      let kept : saved_semaphore p y ≡ y.semaphore = ap (saved_semaphore p) ey ∙ semaphore-kept x p l.answer ∙ ap (λ (z : After). z.semaphore) (sym ey) in
      let ep : p' ≡ y.semaphore = w.1.0 ∙ kept in
      (λ i. lent (w.1.1 i) (w.0 i) (ep i) d' sh' list') ∙ ap (written_back ys) e

-- the same of a call that makes a state
pub made-back : (judged : ℕ) (made : Left) (f : List ℕ) (ys : List CoreRecord) (p : Semaphore) (d sh : List ℕ) (x : Table) (y : After) (n : ℕ) (ys' : List CoreRecord) (p' : Semaphore) (d' sh' : List ℕ)
    → table_left y d' sh' [] ≡ made_on judged made f x p d sh → WrittenBack ys p y n ys' p' → lent n ys' p' d' sh' [] ≡ written_back ys (made_on judged made f x p d sh)
made-back judged made f ys p d sh x y n ys' p' d' sh' =
    written_back_lem ys p x (pick (leb (cores f) x.count) made (left_as (answer_of (next judged 21) (table_of 0 0)) d sh [])) y n ys' p' d' sh' []

pub step-written : (f t : List ℕ) (ys : List CoreRecord) (p : Semaphore) (d sh : List ℕ) (k : ℕ) (x : Table) (y : After) (n : ℕ) (ys' : List CoreRecord) (p' : Semaphore) (d' sh' : List ℕ)
    → x ≡ loaded ys → table_left y d' sh' [] ≡ step_table f t x p d sh k → WrittenBack ys p y n ys' p'
    → lent n ys' p' d' sh' [] ≡ step_lent f t ys p d sh k
unfolding step_lent step_table
step-written f t ys p d sh k x y n ys' p' d' sh' e₁ e₂ w =
    written_back_lem ys p (loaded ys) (step_call f t (held (loaded ys) p) d sh k) y n ys' p' d' sh' [] (e₂ ∙ ap (λ (z : Table). step_table f t z p d sh k) e₁) w

pub run-written : (f t : List ℕ) (ys : List CoreRecord) (p : Semaphore) (d sh order list : List ℕ) (x : Table) (y : After) (n : ℕ) (ys' : List CoreRecord) (p' : Semaphore) (d' sh' list' : List ℕ)
    → x ≡ loaded ys → table_left y d' sh' list' ≡ run_table f t x p d sh order list → WrittenBack ys p y n ys' p'
    → lent n ys' p' d' sh' list' ≡ run_lent f t ys p d sh order list
unfolding run_lent run_table
run-written f t ys p d sh order list x y n ys' p' d' sh' list' e₁ e₂ w =
    written_back_lem ys p (loaded ys) (run_call f t (held (loaded ys) p) d sh order list) y n ys' p' d' sh' list' (e₂ ∙ ap (λ (z : Table). run_table f t z p d sh order list) e₁) w

pub taken-written : (f t : List ℕ) (ys : List CoreRecord) (p : Semaphore) (d sh order list : List ℕ) (taken taken' : ℕ) (x : Table)
    → x ≡ loaded ys → taken' ≡ taken_table f t x p d sh order list taken → taken' ≡ taken_lent f t ys p d sh order list taken
unfolding taken_lent
taken-written f t ys p d sh order list taken taken' x e₁ e₂ = e₂ ∙ ap (λ (z : Table). taken_table f t z p d sh order list taken) e₁

pub fresh-written : (f : List ℕ) (ys : List CoreRecord) (p : Semaphore) (d sh : List ℕ) (x : Table) (y : After) (n : ℕ) (ys' : List CoreRecord) (p' : Semaphore) (d' sh' : List ℕ)
    → x ≡ loaded ys → table_left y d' sh' [] ≡ fresh_table f x p d sh → WrittenBack ys p y n ys' p'
    → lent n ys' p' d' sh' [] ≡ fresh_lent f ys p d sh
unfolding fresh_lent fresh_table
fresh-written f ys p d sh x y n ys' p' d' sh' e₁ e₂ w =
    made-back (judge f) (fresh_call f d sh) f ys p d sh (loaded ys) y n ys' p' d' sh' (e₂ ∙ ap (λ (z : Table). fresh_table f z p d sh) e₁) w

pub fresh-written-for : (o : Profile) (f : List ℕ) (ys : List CoreRecord) (p : Semaphore) (d sh : List ℕ) (x : Table) (y : After) (n : ℕ) (ys' : List CoreRecord) (p' : Semaphore) (d' sh' : List ℕ)
    → x ≡ loaded ys → table_left y d' sh' [] ≡ fresh_table_for o f x p d sh → WrittenBack ys p y n ys' p'
    → lent n ys' p' d' sh' [] ≡ fresh_lent_for o f ys p d sh
unfolding fresh_lent_for fresh_table_for
fresh-written-for o f ys p d sh x y n ys' p' d' sh' e₁ e₂ w =
    made-back (judge_for o f) (fresh_call_for o f d sh) f ys p d sh (loaded ys) y n ys' p' d' sh' (e₂ ∙ ap (λ (z : Table). fresh_table_for o f z p d sh) e₁) w

pub rerun-written : (f t list : List ℕ) (ys : List CoreRecord) (p : Semaphore) (d sh : List ℕ) (x : Table) (y : After) (n : ℕ) (ys' : List CoreRecord) (p' : Semaphore) (d' sh' : List ℕ)
    → x ≡ loaded ys → table_left y d' sh' [] ≡ rerun_table f t list x p d sh → WrittenBack ys p y n ys' p'
    → lent n ys' p' d' sh' [] ≡ rerun_lent f t list ys p d sh
unfolding rerun_lent rerun_table
rerun-written f t list ys p d sh x y n ys' p' d' sh' e₁ e₂ w =
    made-back (judge f) (rerun_call f t list d sh) f ys p d sh (loaded ys) y n ys' p' d' sh' (e₂ ∙ ap (λ (z : Table). rerun_table f t list z p d sh) e₁) w
