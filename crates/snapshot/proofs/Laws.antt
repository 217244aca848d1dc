-- Laws of the table as a state, and of what a call leaves of a snapshot. In order: whole stretches; what a call by value left; calls on a
-- snapshot. Not here: the next core (Asked). Assumes nothing.
use mathlib.Core.Path.{◌≡◌, sym, ap, ◌∙◌}
use mathlib.Core.Logic.{◌≢◌}
use mathlib.Core.List.{List, [], ◌++◌, append-nil}
use Prim.Native.Nat.{ℕ, zero, suc, ◌≤◌, ◌<◌}
use native.Mathlib.Nat.{suc-ne-zero, zero-add}
use native.Mathlib.Omega.{arith}
use lib.ListN.{length, drop}
use lib.Seq.{take_all, drop-length}
use borrow.Author.Tests.{eq-eqb, ne_eqb, le-leb, lt-leb}
use Rattle.verdict.specs.Verdict.{next}
use Rattle.memory.specs.Memory.{splice, part}
use Rattle.memory.proofs.Laws.{splice-is}
use Rattle.verdict.proofs.Verdict.{pick_true, pick-false}
use Rattle.records.specs.File.{cores}
use Rattle.code.specs.declared.Profile.{Profile}
use Rattle.code.specs.declared.Profile.TheVariants.{Full}
use Rattle.taskset.specs.Judge.{judge_for, judge}
use Rattle.semaphore.specs.declared.Semaphore.{Semaphore}
use Rattle.states.specs.declared.Held.{Held}
use Rattle.runner.specs.declared.RunAnswer.{RunAnswer}
use Rattle.runner.specs.Runs.{Left, left_as}
use Rattle.machine.specs.Calls.{answer_of, table_of, fresh_call_for, run_call, step_call}
use Rattle.machine.proofs.Calls.{fresh-full}
use Rattle.rerun.specs.Calls.{rerun_call}
use Rattle.snapshot.specs.declared.Table.{Table}
use Rattle.snapshot.specs.declared.After.{After}
use Rattle.snapshot.specs.Snapshot.{held, accepted_of, refused_of, after_of, taken_after, table_left, on_table, step_table, run_table, taken_table, made_on, fresh_table_for, fresh_table, rerun_table}

-- ---- whole stretches

pub part-whole : (s : List ℕ) (n : ℕ) → length s ≡ n → part s 0 n ≡ s
unfolding part
part-whole s n e = take_all n s (omega (arith, e))

pub splice-whole : (s ys : List ℕ) → length ys ≡ length s → splice s 0 ys ≡ ys
splice-whole s ys e =
    splice-is s 0 ys (omega (arith, e)) ∙ ap (λ (m : ℕ). ys ++ drop m s) (zero-add (length ys) ∙ e) ∙ ap (λ (r : List ℕ). ys ++ r) (drop-length s) ∙ append-nil ys

-- ---- what a call by value left

pub on-refused : (x : Table) (p : Semaphore) (r : RunAnswer) (d sh list : List ℕ) → r.refusal ≢ 0 → on_table x p (left_as r d sh list) ≡ table_left (refused_of x p r.refusal) d sh list
on-refused x p r d sh list ne =
    let kept : after_of x p r ≡ refused_of x p r.refusal = pick-false _ _ _ (ne_eqb r.refusal 0 ne) in
    (λ i. table_left (kept i) d sh list)

pub on-accepted : (x : Table) (p : Semaphore) (r : RunAnswer) (d sh list : List ℕ) → r.refusal ≡ 0 → on_table x p (left_as r d sh list) ≡ table_left (accepted_of x r.state) d sh list
on-accepted x p r d sh list z =
    let new : after_of x p r ≡ accepted_of x r.state = pick_true _ _ _ (eq-eqb r.refusal 0 z) in
    (λ i. table_left (new i) d sh list)

-- the file's own refusal, else 21: never none
pub short-refused : (a : ℕ) → next a 21 ≢ 0
unfolding next
short-refused zero e = suc-ne-zero 20 e
short-refused (suc a) e = suc-ne-zero a e

-- ---- a call on a snapshot: refused, or not

module _ (f t : List ℕ) (x : Table) (p : Semaphore) (d sh : List ℕ) (k : ℕ) (s : Held) (r : RunAnswer) (y : After) (d' sh' : List ℕ) (es : s ≡ held x p) (e : left_as r d' sh' [] ≡ step_call f t s d sh k) where
  stepped-on : on_table x p (left_as r d' sh' []) ≡ step_table f t x p d sh k
  unfolding step_table
  stepped-on = ap (on_table x p) (e ∙ ap (λ (z : Held). step_call f t z d sh k) es)

  pub step_stays : r.refusal ≢ 0 → y ≡ refused_of x p r.refusal → table_left y d' sh' [] ≡ step_table f t x p d sh k
  step_stays ne ey = ap (λ (z : After). table_left z d' sh' []) ey ∙ sym (on-refused x p r d' sh' [] ne) ∙ stepped-on

  pub step-moves : r.refusal ≡ 0 → y ≡ accepted_of x r.state → table_left y d' sh' [] ≡ step_table f t x p d sh k
  step-moves z ey = ap (λ (z : After). table_left z d' sh' []) ey ∙ sym (on-accepted x p r d' sh' [] z) ∙ stepped-on

module _ (f t : List ℕ) (x : Table) (p : Semaphore) (d sh order list : List ℕ) (taken : ℕ) (s : Held) (r : RunAnswer) (y : After) (d' sh' list' : List ℕ) (es : s ≡ held x p) (e : left_as r d' sh' list' ≡ run_call f t s d sh order list) where
  ran_on : on_table x p (left_as r d' sh' list') ≡ run_table f t x p d sh order list
  unfolding run_table
  ran_on = ap (on_table x p) (e ∙ ap (λ (z : Held). run_call f t z d sh order list) es)

  taken-on : taken_after taken r ≡ taken_table f t x p d sh order list taken
  unfolding taken_table
  taken-on = ap (λ (l : Left). taken_after taken l.answer) (e ∙ ap (λ (z : Held). run_call f t z d sh order list) es)

  pub run-stays : r.refusal ≢ 0 → y ≡ refused_of x p r.refusal
      → (table_left y d' sh' list' ≡ run_table f t x p d sh order list) × (taken ≡ taken_table f t x p d sh order list taken)
  run-stays ne ey = (
    ap (λ (z : After). table_left z d' sh' list') ey ∙ sym (on-refused x p r d' sh' list' ne) ∙ ran_on,
    sym (pick-false _ _ _ (ne_eqb r.refusal 0 ne)) ∙ taken-on,
  )

  pub run-moves : r.refusal ≡ 0 → y ≡ accepted_of x r.state
      → (table_left y d' sh' list' ≡ run_table f t x p d sh order list) × (r.taken ≡ taken_table f t x p d sh order list taken)
  run-moves z ey = (
    ap (λ (z : After). table_left z d' sh' list') ey ∙ sym (on-accepted x p r d' sh' list' z) ∙ ran_on,
    sym (pick_true _ _ _ (eq-eqb r.refusal 0 z)) ∙ taken-on,
  )

-- a call that makes a state, on a table of enough records or of fewer
module _ (judged : ℕ) (made : Left) (f : List ℕ) (x : Table) (p : Semaphore) (d sh : List ℕ) (n : ℕ) (en : n ≡ cores f) where
  pub made-short : (r : ℕ) (y : After) → x.count < n → r ≡ next judged 21 → y ≡ refused_of x p r → table_left y d sh [] ≡ made_on judged made f x p d sh
  made-short r y h er ey =
      let q = next judged 21 in
      ap (λ (z : After). table_left z d sh []) (ey ∙ ap (refused_of x p) er)
      ∙ sym (on-refused x p (answer_of q (table_of 0 0)) d sh [] (short-refused judged))
      ∙ ap (on_table x p) (sym (pick-false _ _ _ (lt-leb (cores f) x.count (omega (arith, en, h)))))

  module _ (r : RunAnswer) (y : After) (d' sh' : List ℕ) (h : n ≤ x.count) (e : left_as r d' sh' [] ≡ made) where
    made-on : on_table x p (left_as r d' sh' []) ≡ made_on judged made f x p d sh
    made-on = ap (on_table x p) (e ∙ sym (pick_true _ _ _ (le-leb (cores f) x.count (omega (arith, en, h)))))

    pub made-stays : r.refusal ≢ 0 → y ≡ refused_of x p r.refusal → table_left y d' sh' [] ≡ made_on judged made f x p d sh
    made-stays ne ey = ap (λ (z : After). table_left z d' sh' []) ey ∙ sym (on-refused x p r d' sh' [] ne) ∙ made-on

    pub made-moves : r.refusal ≡ 0 → y ≡ accepted_of x r.state → table_left y d' sh' [] ≡ made_on judged made f x p d sh
    made-moves z ey = ap (λ (z : After). table_left z d' sh' []) ey ∙ sym (on-accepted x p r d' sh' [] z) ∙ made-on

module _ (o : Profile) (f : List ℕ) (x : Table) (p : Semaphore) (d sh : List ℕ) (n : ℕ) (en : n ≡ cores f) where
  pub fresh-short : (r : ℕ) (y : After) → x.count < n → r ≡ next (judge_for o f) 21 → y ≡ refused_of x p r → table_left y d sh [] ≡ fresh_table_for o f x p d sh
  unfolding fresh_table_for
  fresh-short = made-short (judge_for o f) (fresh_call_for o f d sh) f x p d sh n en

  module _ (r : RunAnswer) (y : After) (d' sh' : List ℕ) (h : n ≤ x.count) (e : left_as r d' sh' [] ≡ fresh_call_for o f d sh) where
    pub fresh-stays : r.refusal ≢ 0 → y ≡ refused_of x p r.refusal → table_left y d' sh' [] ≡ fresh_table_for o f x p d sh
    unfolding fresh_table_for
    fresh-stays = made-stays (judge_for o f) (fresh_call_for o f d sh) f x p d sh n en r y d' sh' h e

    pub fresh-moves : r.refusal ≡ 0 → y ≡ accepted_of x r.state → table_left y d' sh' [] ≡ fresh_table_for o f x p d sh
    unfolding fresh_table_for
    fresh-moves = made-moves (judge_for o f) (fresh_call_for o f d sh) f x p d sh n en r y d' sh' h e

module _ (f t list : List ℕ) (x : Table) (p : Semaphore) (d sh : List ℕ) (n : ℕ) (en : n ≡ cores f) where
  pub rerun-short : (r : ℕ) (y : After) → x.count < n → r ≡ next (judge f) 21 → y ≡ refused_of x p r → table_left y d sh [] ≡ rerun_table f t list x p d sh
  unfolding rerun_table
  rerun-short = made-short (judge f) (rerun_call f t list d sh) f x p d sh n en

  module _ (r : RunAnswer) (y : After) (d' sh' : List ℕ) (h : n ≤ x.count) (e : left_as r d' sh' [] ≡ rerun_call f t list d sh) where
    pub rerun-stays : r.refusal ≢ 0 → y ≡ refused_of x p r.refusal → table_left y d' sh' [] ≡ rerun_table f t list x p d sh
    unfolding rerun_table
    rerun-stays = made-stays (judge f) (rerun_call f t list d sh) f x p d sh n en r y d' sh' h e

    pub rerun-moves : r.refusal ≡ 0 → y ≡ accepted_of x r.state → table_left y d' sh' [] ≡ rerun_table f t list x p d sh
    unfolding rerun_table
    rerun-moves = made-moves (judge f) (rerun_call f t list d sh) f x p d sh n en r y d' sh' h e

-- the call without a profile is that of the full one
pub full-table : (f : List ℕ) (x : Table) (p : Semaphore) (d sh : List ℕ) → fresh_table_for Full f x p d sh ≡ fresh_table f x p d sh
unfolding fresh_table_for fresh_table
full-table f x p d sh = ap (λ (l : Left). made_on (judge f) l f x p d sh) (fresh-full f d sh)
