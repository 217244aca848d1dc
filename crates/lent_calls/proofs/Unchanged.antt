-- A refused call on a lent table leaves every record, the semaphore and every lent byte as on entry: each claim is the whole of what the
-- call leaves. In order: a table after a refused call; the calls; the registers of one core.
-- Assumes nothing.
use mathlib.Core.Path.{◌≡◌, refl, sym, ap, subst, ◌∙◌}
use mathlib.Core.Logic.{◌≢◌}
use mathlib.Core.Bool.{true, false}
use mathlib.Core.List.{List, []}
use Prim.Native.Nat.{ℕ, ◌<◌}
use lib.ListN.{length}
use lib.Seq.{get_or-set_same}
use lib.Dec.{leb, ltb}
use borrow.Author.Tests.{ne_eqb, ltb-true}
use Rattle.verdict.specs.Verdict.{next}
use Rattle.verdict.proofs.Verdict.{pick_true, pick-false, by-pick}
use Rattle.records.specs.File.{cores}
use Rattle.taskset.specs.Judge.{judge}
use Rattle.protocol.specs.declared.Registers.{Registers}
use Rattle.semaphore.specs.declared.Semaphore.{Semaphore}
use Rattle.states.specs.declared.Held.{Held}
use Rattle.states.specs.Machine.{no_registers}
use Rattle.runner.specs.Runs.{Left, left_as}
use Rattle.machine.specs.Calls.{answer_of, table_of, fresh_refusal, fresh_call, run_refusal, run_call, step_refusal, step_call, next_refusal}
use Rattle.rerun.specs.Calls.{rerun_refusal, rerun_call}
use Rattle.snapshot.specs.declared.CoreRecord.{CoreRecord}
use Rattle.snapshot.specs.declared.After.{After}
use Rattle.snapshot.specs.Snapshot.{counted, held, refused_of, on_table, step_table, run_table, taken_after, taken_table, fresh_table, rerun_table, answered, with_registers, registers_after, step_registers}
use Rattle.rikzord.specs.Lent.{loaded, saved, lent, written_back, step_lent, run_lent, taken_lent, fresh_lent, rerun_lent, next_lent}
use Rattle.snapshot.proofs.Laws.{on-refused, short-refused}

-- ---- a table after a refused call

pub saved-same : (ys : List CoreRecord) (x : After) → x.refusal ≢ 0 → saved ys x ≡ ys
saved-same ys x ne = pick-false _ _ _ (ne_eqb _ 0 ne)

pub refused-lent : (ys : List CoreRecord) (p : Semaphore) (d sh list : List ℕ) (n : ℕ) (s : Held) → n ≢ 0
    → written_back ys (on_table (loaded ys) p (left_as (answer_of n s) d sh list)) ≡ lent n ys p d sh list
refused-lent ys p d sh list n s ne =
    ap (written_back ys) (on-refused (loaded ys) p (answer_of n s) d sh list ne) ∙ ap (λ (l : List CoreRecord). lent n l p d sh list) (saved-same ys (refused_of (loaded ys) p n) ne)

-- ---- the calls

pub step-refused : (f t : List ℕ) (ys : List CoreRecord) (p : Semaphore) (d sh : List ℕ) (k : ℕ) → step_refusal f t (held (loaded ys) p) d sh k ≢ 0
    → step_lent f t ys p d sh k ≡ lent (step_refusal f t (held (loaded ys) p) d sh k) ys p d sh []
unfolding step_lent step_table step_call
step-refused f t ys p d sh k ne =
    ap (λ (l : Left). written_back ys (on_table (loaded ys) p l)) (pick-false _ _ _ (ne_eqb _ 0 ne)) ∙ refused-lent ys p d sh [] _ (held (loaded ys) p) ne

pub run-refused : (f t : List ℕ) (ys : List CoreRecord) (p : Semaphore) (d sh order list : List ℕ) → run_refusal f t (held (loaded ys) p) d sh order list ≢ 0
    → run_lent f t ys p d sh order list ≡ lent (run_refusal f t (held (loaded ys) p) d sh order list) ys p d sh list
unfolding run_lent run_table run_call
run-refused f t ys p d sh order list ne =
    ap (λ (l : Left). written_back ys (on_table (loaded ys) p l)) (pick-false _ _ _ (ne_eqb _ 0 ne)) ∙ refused-lent ys p d sh list _ (held (loaded ys) p) ne

pub taken_refused : (f t : List ℕ) (ys : List CoreRecord) (p : Semaphore) (d sh order list : List ℕ) (taken : ℕ) → run_refusal f t (held (loaded ys) p) d sh order list ≢ 0
    → taken_lent f t ys p d sh order list taken ≡ taken
unfolding taken_lent taken_table run_call
taken_refused f t ys p d sh order list taken ne =
    ap (λ (l : Left). taken_after taken l.answer) (pick-false _ _ _ (ne_eqb _ 0 ne)) ∙ pick-false _ _ _ (ne_eqb _ 0 ne)

-- a table that is long enough, and one that is too short
pub fresh-refused : (f : List ℕ) (ys : List CoreRecord) (p : Semaphore) (d sh : List ℕ) → leb (cores f) (counted (length ys)) ≡ true → fresh_refusal f (length d) (length sh) ≢ 0
    → fresh_lent f ys p d sh ≡ lent (fresh_refusal f (length d) (length sh)) ys p d sh []
unfolding fresh_lent fresh_table fresh_call
fresh-refused f ys p d sh e ne =
    ap (λ (l : Left). written_back ys (on_table (loaded ys) p l)) (pick_true _ _ _ e ∙ pick-false _ _ _ (ne_eqb _ 0 ne)) ∙ refused-lent ys p d sh [] _ (table_of 0 0) ne

pub fresh-short-refused : (f : List ℕ) (ys : List CoreRecord) (p : Semaphore) (d sh : List ℕ) → leb (cores f) (counted (length ys)) ≡ false
    → fresh_lent f ys p d sh ≡ lent (next (judge f) 21) ys p d sh []
unfolding fresh_lent fresh_table
fresh-short-refused f ys p d sh e =
    ap (λ (l : Left). written_back ys (on_table (loaded ys) p l)) (pick-false _ _ _ e) ∙ refused-lent ys p d sh [] _ (table_of 0 0) (short-refused (judge f))

pub rerun-refused : (f t list : List ℕ) (ys : List CoreRecord) (p : Semaphore) (d sh : List ℕ) → leb (cores f) (counted (length ys)) ≡ true → rerun_refusal f t list (length d) (length sh) ≢ 0
    → rerun_lent f t list ys p d sh ≡ lent (rerun_refusal f t list (length d) (length sh)) ys p d sh []
unfolding rerun_lent rerun_table rerun_call
rerun-refused f t list ys p d sh e ne =
    ap (λ (l : Left). written_back ys (on_table (loaded ys) p l)) (pick_true _ _ _ e ∙ pick-false _ _ _ (ne_eqb _ 0 ne)) ∙ refused-lent ys p d sh [] _ (table_of 0 0) ne

pub rerun-short-refused : (f t list : List ℕ) (ys : List CoreRecord) (p : Semaphore) (d sh : List ℕ) → leb (cores f) (counted (length ys)) ≡ false
    → rerun_lent f t list ys p d sh ≡ lent (next (judge f) 21) ys p d sh []
unfolding rerun_lent rerun_table
rerun-short-refused f t list ys p d sh e =
    ap (λ (l : Left). written_back ys (on_table (loaded ys) p l)) (pick-false _ _ _ e) ∙ refused-lent ys p d sh [] _ (table_of 0 0) (short-refused (judge f))

pub next-core-refused : (f t : List ℕ) (ys : List CoreRecord) (p : Semaphore) (given found : ℕ) → next_refusal f t (held (loaded ys) p) given ≢ 0
    → next_lent f t ys p given found ≡ answered (next_refusal f t (held (loaded ys) p) given) found
unfolding next_lent
next-core-refused f t ys p given found ne = pick-false _ _ _ (ne_eqb _ 0 ne)

-- ---- the registers of one core

pub registers-kept : (s : Held) (r : Registers) (k : ℕ) → length s.cores ≡ 4 → registers_after (with_registers s k r) k r ≡ r
unfolding with_registers
registers-kept s r k four = by-pick (λ (x : Registers). x ≡ r) (ltb k 4) _ r (λ e. get_or-set_same s.cores k r no_registers (subst (λ (n : ℕ). k < n) (sym four) (ltb-true k 4 e))) (λ e. refl)

pub registers-refused : (f t : List ℕ) (s : Held) (r : Registers) (d sh : List ℕ) (k : ℕ) → length s.cores ≡ 4 → step_refusal f t (with_registers s k r) d sh k ≢ 0
    → (step_registers f t s r d sh k ≡ left_as (answer_of (step_refusal f t (with_registers s k r) d sh k) (with_registers s k r)) d sh [])
    × (registers_after (step_registers f t s r d sh k).answer.state k r ≡ r)
unfolding step_registers step_call
registers-refused f t s r d sh k four ne =
    let e : step_call f t (with_registers s k r) d sh k ≡ left_as (answer_of (step_refusal f t (with_registers s k r) d sh k) (with_registers s k r)) d sh [] = pick-false _ _ _ (ne_eqb _ 0 ne) in
    (e, ap (λ (l : Left). registers_after l.answer.state k r) e ∙ registers-kept s r k four)
