-- Calls on a lent table one after another, from the fresh state on: each list of calls is the steps that its calls count as.
-- In order: lists of calls; the fresh state; demand 3 of every list.
-- Not here: one call (`OneCall`), steps with lent registers (`WithRegisters`), the same list by value (`ByValue`). Assumes nothing.
use mathlib.Core.Path.{◌≡◌, refl, sym, ap, ◌∙◌, subst}
use mathlib.Core.Bool.{Bool, true, false}
use mathlib.Core.List.{List, [], ◌∷◌}
use Prim.Native.Nat.{ℕ, ◌≤◌, ◌<◌}
use native.Mathlib.Omega.{arith}
use borrow.Author.Tests.{leb-true, ltb-false, eq-eqb, eqb-true, eqb-false}
use lib.Dec.{eqb, leb, ltb}
use lib.Seq.{get_or-take}
use lib.ListN.{length, get_or, take, length-take, length-replicate}
use Rattle.verdict.proofs.Verdict.{pick_true, next-zero}
use Rattle.protocol.specs.Step.{run}
use Rattle.protocol.proofs.Steps.{run-append}
use Rattle.records.specs.File.{cores}
use Rattle.taskset.specs.Judge.{judge}
use Rattle.taskset.specs.Trace.{trace_refusal}
use Rattle.taskset.specs.Starts.{start_shared, start_buffer}
use Rattle.taskset.specs.Fresh.{fresh_of}
use Rattle.taskset.proofs.Accepted.{length-buffer, length-shared}
use Rattle.semaphore.specs.declared.Semaphore.{Semaphore}
use Rattle.states.specs.Task.{task_of}
use Rattle.states.specs.Set.{AcceptedSet}
use Rattle.states.specs.Machine.{state_of}
use Rattle.states.specs.Fit.{Fit}
use Rattle.states.proofs.Accepted.{accepted-set}
use Rattle.states.proofs.Fresh.{fresh-fit}
use Rattle.runner.specs.Runs.{Left, left_as}
use Rattle.machine.specs.Calls.{answer_of, table_of, fresh_refusal, fresh_call}
use Rattle.calls.proofs.Interleaving.{interleaved-machine}
use Rattle.calls.proofs.Fair.{fair-machine}
use Rattle.calls.proofs.Calling.{Lendable, fresh-state}
use Rattle.snapshot.specs.declared.CoreRecord.{CoreRecord}
use Rattle.snapshot.specs.Snapshot.{no_record, counted, core_of, accepted_of, on_table, fresh_table}
use Rattle.rikzord.specs.Lent.{record_at, loaded, stored_records, Lent, lent, written_back, fresh_lent}
use Rattle.lent_calls.specs.Calling.{LentCall, leaves_lent, lent_calls, whole_lent, counts_lent, lent_steps_of, LentInterleaved, LentFair}
use Rattle.snapshot.proofs.Laws.{on-accepted, short-refused}
use Rattle.lent_calls.proofs.Unchanged.{fresh-refused, fresh-short-refused}
use Rattle.lent_calls.proofs.TableState.{state-same, lendable-same, stored-length, stored_at}
use Rattle.lent_calls.proofs.OneCall.{Ready, lent-counted}

-- ---- lists

pub lent-calls-counted : (f t : List ℕ) → AcceptedSet f t → (cs : List LentCall) (x : Lent) → Ready f t x
    → (whole_lent f (lent_calls f t cs x) ≡ run (task_of f t) (lent_steps_of f t cs x) (whole_lent f x)) × Ready f t (lent_calls f t cs x)
lent-calls-counted f t ok [] x w = (refl, w)
lent-calls-counted f t ok (c ∷ cs) x w =
    let y = lent-counted f t ok x w c in
    let more = lent-calls-counted f t ok cs (leaves_lent f t c x) y.ready in
    let rest = lent_steps_of f t cs (leaves_lent f t c x) in (
      more.0 ∙ ap (run (task_of f t) rest) y.whole ∙ sym (run-append (task_of f t) (counts_lent f t c x) rest (whole_lent f x)),
      more.1,
    )

-- ---- the fresh state

-- a call for the fresh state that is not refused has a table of at least n records
module _ (f : List ℕ) (ys : List CoreRecord) (p : Semaphore) (d sh : List ℕ) (e : (fresh_lent f ys p d sh).refusal ≡ 0) where
  fresh-long : leb (cores f) (counted (length ys)) ≡ true
  fresh-long = go (leb (cores f) (counted (length ys))) refl
    where
      go : (q : Bool) → leb (cores f) (counted (length ys)) ≡ q → leb (cores f) (counted (length ys)) ≡ true
      go true l = l
      go false l = absurd (short-refused (judge f) (sym (ap (λ (x : Lent). x.refusal) (fresh-short-refused f ys p d sh l)) ∙ e))

  pub fresh-granted : fresh_refusal f (length d) (length sh) ≡ 0
  fresh-granted = go (eqb (fresh_refusal f (length d) (length sh)) 0) refl
    where
      go : (q : Bool) → eqb (fresh_refusal f (length d) (length sh)) 0 ≡ q → fresh_refusal f (length d) (length sh) ≡ 0
      go true l = eqb-true _ _ l
      go false l = sym (ap (λ (x : Lent). x.refusal) (fresh-refused f ys p d sh fresh-long (eqb-false _ _ l))) ∙ e

  abbrev made : List CoreRecord
  made = stored_records ys (accepted_of (loaded ys) (table_of (cores f) 4))

  -- what it left
  fresh-left : fresh_lent f ys p d sh ≡ lent 0 made (table_of (cores f) 4).semaphore (start_buffer f) (start_shared f) []
  unfolding fresh_lent fresh_table fresh_call table_of
  fresh-left =
      ap (λ (l : Left). written_back ys (on_table (loaded ys) p l)) (pick_true _ _ _ fresh-long ∙ pick_true _ _ _ (eq-eqb _ 0 fresh-granted))
      ∙ ap (written_back ys) (on-accepted (loaded ys) p (answer_of 0 (table_of (cores f) 4)) (start_buffer f) (start_shared f) [] refl)
      ∙ ap (λ (l : List CoreRecord). lent 0 l (table_of (cores f) 4).semaphore (start_buffer f) (start_shared f) []) (pick_true _ _ _ refl)

  -- what the call by value leaves
  pub value-left : fresh_call f d sh ≡ left_as (answer_of 0 (table_of (cores f) 4)) (start_buffer f) (start_shared f) []
  unfolding fresh_call
  value-left = pick_true _ _ _ (eq-eqb _ 0 fresh-granted)

  module _ (t : List ℕ) (ok : AcceptedSet f t) where
    enough : cores f ≤ length ys
    enough = go (ltb (length ys) 255) refl
      where
        go : (q : Bool) → ltb (length ys) 255 ≡ q → cores f ≤ length ys
        go true l = omega (arith, leb-true (cores f) (counted (length ys)) fresh-long, pick_true (ltb (length ys) 255) (length ys) 255 l)
        go false l = omega (arith, ok.few, ltb-false (length ys) 255 l)

    pub value-fresh : state_of f (table_of (cores f) 4) (start_buffer f) (start_shared f) ≡ fresh_of f
    value-fresh = fresh-state f ok.few

    pub value-lendable : Lendable f t (left_as (answer_of 0 (table_of (cores f) 4)) (start_buffer f) (start_shared f) [])
    unfolding table_of
    value-lendable = record {
      count = refl;
      line = omega arith;
      sized = record {
        memory = length-buffer f;
        shared = length-shared f;
        places = length-replicate {A = ℕ} 64 0;
        offsets = length-replicate {A = ℕ} 64 0;
      };
      fit = subst (Fit f t) (sym value-fresh) (fresh-fit f t ok);
    }

    full : length (take (cores f) made) ≡ cores f
    full = omega (arith, length-take (cores f) made, stored-length ys (accepted_of (loaded ys) (table_of (cores f) 4)), enough)

    at : (k : ℕ) → k < cores f → record_at (take (cores f) made) k ≡ core_of (table_of (cores f) 4) k
    unfolding table_of
    at k l = get_or-take (cores f) made k no_record l ∙ stored_at (table_of (cores f) 4) ys (cores f) ok.few refl enough k l

    abbrev begun : Lent
    begun = lent 0 made (table_of (cores f) 4).semaphore (start_buffer f) (start_shared f) []

    pub fresh-ready : Ready f t (fresh_lent f ys p d sh)
    unfolding table_of
    fresh-ready = subst (Ready f t) (sym fresh-left) record {
      rows = omega (arith, stored-length ys (accepted_of (loaded ys) (table_of (cores f) 4)), enough);
      lendable =
          lendable-same f ok.few (table_of (cores f) 4) value-lendable.sized.places value-lendable.sized.offsets (take (cores f) made) full at t (start_buffer f) (start_shared f) [] [] 0 0
          value-lendable;
    }

    pub lent-fresh : whole_lent f (fresh_lent f ys p d sh) ≡ fresh_of f
    unfolding table_of
    lent-fresh =
        ap (whole_lent f) fresh-left
        ∙ state-same f ok.few (table_of (cores f) 4) value-lendable.sized.places value-lendable.sized.offsets (take (cores f) made) full at (start_buffer f) (start_shared f)
        ∙ value-fresh

-- ---- demand 3 of every list of lent calls; that f and t are bytes is known of the types

pub lent-interleaved : (f t : List ℕ) → ((i : ℕ) → get_or f i 0 < 256) → ((i : ℕ) → get_or t i 0 < 256) → (ys : List CoreRecord) (p : Semaphore) (d sh : List ℕ)
    → (fresh_lent f ys p d sh).refusal ≡ 0 → trace_refusal f t ≡ 0 → (cs : List LentCall) → LentInterleaved f t ys p d sh cs
unfolding fresh_refusal
lent-interleaved f t bytes trace-bytes ys p d sh e sound cs =
    let accepted : judge f ≡ 0 = (next-zero _ _ (fresh-granted f ys p d sh e)).0 in
    let ok : AcceptedSet f t = accepted-set f t bytes trace-bytes accepted sound in
    let y = lent-calls-counted f t ok cs (fresh_lent f ys p d sh) (fresh-ready f ys p d sh e t ok) in
    let ks = lent_steps_of f t cs (fresh_lent f ys p d sh) in
    record {
      steps = y.0 ∙ ap (run (task_of f t) ks) (lent-fresh f ys p d sh e t ok);
      interleaved = interleaved-machine f t accepted ks;
    }

pub lent-fair : (f t : List ℕ) → ((i : ℕ) → get_or f i 0 < 256) → ((i : ℕ) → get_or t i 0 < 256) → (ys : List CoreRecord) (p : Semaphore) (d sh : List ℕ)
    → (fresh_lent f ys p d sh).refusal ≡ 0 → trace_refusal f t ≡ 0 → (cs : List LentCall) → LentFair f t ys p d sh cs
lent-fair f t bytes trace-bytes ys p d sh e sound cs = record {
  steps = (lent-interleaved f t bytes trace-bytes ys p d sh e sound cs).steps;
  fair = fair-machine f t (lent_steps_of f t cs (fresh_lent f ys p d sh));
}
