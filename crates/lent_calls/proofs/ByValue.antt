-- A list of calls on a lent table and the same list by value get the same numbers and hold the same state, and a run on a lent table lists its takings.
-- In order: the number that a call gets; two that hold the same state; lists; a run's takings.
-- Not here: what the steps are (`OneCall`, `Calling`). Assumes nothing.
use mathlib.Core.Path.{◌≡◌, refl, sym, ap, ap₂, ◌∙◌, subst}
use mathlib.Core.Bool.{Bool, true}
use mathlib.Core.List.{List, [], ◌∷◌, map}
use Prim.Native.Nat.{ℕ, ◌<◌}
use borrow.Author.Tests.{eq-eqb, eqb-true}
use lib.Dec.{eqb, leb, ltb}
use lib.ListN.{length, get_or, take, length-map}
use Rattle.verdict.specs.Verdict.{pick, both, next, unless}
use Rattle.verdict.proofs.Verdict.{pick_true, by-pick, next-none, next-zero}
use Rattle.memory.specs.Memory.{splice}
use Rattle.protocol.specs.State.{State}
use Rattle.protocol.specs.Step.{run, takings, encoded}
use Rattle.records.specs.File.{cores}
use Rattle.taskset.specs.Trace.{trace_refusal}
use Rattle.semaphore.specs.declared.Semaphore.{Semaphore}
use Rattle.semaphore.specs.Line.{semaphore_of}
use Rattle.states.specs.declared.Held.{Held}
use Rattle.states.specs.Task.{task_of}
use Rattle.states.specs.Set.{AcceptedSet}
use Rattle.states.specs.Machine.{state_of, data_of}
use Rattle.states.specs.Preparing.{held_refusal}
use Rattle.states.proofs.Accepted.{accepted-set}
use Rattle.states.proofs.Exactly.{not-refused}
use Rattle.runner.specs.Runs.{Left, all_below, ran_call}
use Rattle.runner.proofs.Running.{shared-in}
use Rattle.runner.proofs.End.{data-back}
use Rattle.machine.specs.Calls.{lent_fits, call_refusal, fresh_refusal, fresh_call, run_refusal, run_call, step_refusal, step_call}
use Rattle.calls.specs.Calling.{Lending, lent_of, Call, stepping, running, leaves, whole_of, steps_in}
use Rattle.calls.proofs.Calling.{Lendable, call-counted}
use Rattle.snapshot.specs.declared.CoreRecord.{CoreRecord}
use Rattle.snapshot.specs.declared.After.{After}
use Rattle.snapshot.specs.Snapshot.{counted, held, on_table, step_table, run_table, taken_table}
use Rattle.rikzord.specs.Lent.{loaded, Lent, written_back, step_lent, run_lent, taken_lent, fresh_lent}
use Rattle.lent_calls.specs.Calling.{over, leaves_lent, whole_lent}
use Rattle.lent_calls.specs.Calling.{HoldsSame, SameCalls, no_call, one-call, RunLentListed}
use Rattle.lent_calls.proofs.OneCall.{left_by_value, Ready, lent-counted}
use Rattle.lent_calls.proofs.Calling.{fresh-granted, value-left, value-fresh, value-lendable, fresh-ready, lent-fresh}

-- the number that a call gets that is made with what can be lent: file, trace and state are sound
module _ (f t : List ℕ) (ok : AcceptedSet f t) (x : Left) (w : Lendable f t x) where
  number_is : (buffer shared : ℕ) (room named : Bool) → call_refusal f t x.answer.state buffer shared room named ≡ next (unless (both (lent_fits f buffer shared) room) 21) (unless named 20)
  unfolding call_refusal held_refusal next
  number_is buffer shared room named =
      let sound : held_refusal f t x.answer.state ≡ 0 = next-none _ _ ok.trace (not-refused f t ok x.answer.state x.memory x.shared w.sized ((w.count, w.line), w.fit)) in
      ap (λ (n : ℕ). next n (next (unless (both (lent_fits f buffer shared) room) 21) (next (held_refusal f t x.answer.state) (unless named 20)))) ok.file
      ∙ ap (λ (n : ℕ). next (unless (both (lent_fits f buffer shared) room) 21) (next n (unless named 20))) sound

-- the number of what a call by value left
step-number : (f t : List ℕ) (h : Held) (d sh : List ℕ) (k : ℕ) → (step_call f t h d sh k).answer.refusal ≡ step_refusal f t h d sh k
unfolding step_call
step-number f t h d sh k = by-pick (λ (l : Left). l.answer.refusal ≡ step_refusal f t h d sh k) (eqb (step_refusal f t h d sh k) 0) _ _ (λ e. sym (eqb-true _ _ e)) (λ e. refl)

pub run-number : (f t : List ℕ) (h : Held) (d sh order list : List ℕ) → (run_call f t h d sh order list).answer.refusal ≡ run_refusal f t h d sh order list
unfolding run_call ran_call
run-number f t h d sh order list = by-pick (λ (l : Left). l.answer.refusal ≡ run_refusal f t h d sh order list) (eqb (run_refusal f t h d sh order list) 0) _ _ (λ e. sym (eqb-true _ _ e)) (λ e. refl)

-- the number of what a call left on a table
pub table-number : (ys : List CoreRecord) (p : Semaphore) (l : Left) → (written_back ys (on_table (loaded ys) p l)).refusal ≡ l.answer.refusal
table-number ys p l = by-pick (λ (x : After). x.refusal ≡ l.answer.refusal) (eqb l.answer.refusal 0) _ _ (λ e. sym (eqb-true _ _ e)) (λ e. refl)

-- two that can be lent on have the same memories where they hold the same state
same_of : (f t : List ℕ) (x : Lent) → Ready f t x → (y : Left) → Lendable f t y → whole_lent f x ≡ whole_of f y → HoldsSame f x y
same_of f t x w y v e =
    let h = (left_by_value f x).answer.state in
    let s = y.answer.state in
    record {
      whole = e;
      memory =
          sym (data-back f h.cores h.places h.offsets (semaphore_of h.semaphore) x.memory x.shared w.lendable.sized.memory)
          ∙ ap data_of e
          ∙ data-back f s.cores s.places s.offsets (semaphore_of s.semaphore) y.memory y.shared v.sized.memory;
      shared =
          sym (shared-in f h.cores h.places h.offsets (semaphore_of h.semaphore) x.memory x.shared)
          ∙ ap (λ (z : State). z.plant.shared) e
          ∙ shared-in f s.cores s.places s.offsets (semaphore_of s.semaphore) y.memory y.shared;
    }

module _ (f t : List ℕ) (ok : AcceptedSet f t) (x : Lent) (w : Ready f t x) (y : Left) (v : Lendable f t y) (same : HoldsSame f x y) where
  same_number : (a b : Lending) (room named : Bool)
      → call_refusal f t (left_by_value f x).answer.state (length (lent_of a x.memory)) (length (lent_of b x.shared)) room named
      ≡ call_refusal f t y.answer.state (length (lent_of a y.memory)) (length (lent_of b y.shared)) room named
  same_number a b room named =
      number_is f t ok (left_by_value f x) w.lendable _ _ room named
      ∙ ap₂ (λ (m n : List ℕ). next (unless (both (lent_fits f (length (lent_of a m)) (length (lent_of b n))) room) 21) (unless named 20)) same.memory same.shared
      ∙ sym (number_is f t ok y v _ _ room named)

  pub one_number : (c : Call) → (leaves_lent f t (over (cores f) c) x).refusal ≡ (leaves f t c y).answer.refusal
  unfolding step_lent step_table run_lent run_table step_refusal run_refusal
  one_number (stepping a b k) =
      table-number (take (cores f) x.table) x.semaphore (step_call f t (left_by_value f x).answer.state (lent_of a x.memory) (lent_of b x.shared) k)
      ∙ step-number f t (left_by_value f x).answer.state (lent_of a x.memory) (lent_of b x.shared) k
      ∙ same_number a b true (ltb k (cores f))
      ∙ sym (step-number f t y.answer.state (lent_of a y.memory) (lent_of b y.shared) k)
  one_number (running a b order list) =
      table-number (take (cores f) x.table) x.semaphore (run_call f t (left_by_value f x).answer.state (lent_of a x.memory) (lent_of b x.shared) order list)
      ∙ run-number f t (left_by_value f x).answer.state (lent_of a x.memory) (lent_of b x.shared) order list
      ∙ same_number a b (leb (length order) (length list)) (all_below (cores f) order)
      ∙ sym (run-number f t y.answer.state (lent_of a y.memory) (lent_of b y.shared) order list)

  one_same : (c : Call) → HoldsSame f (leaves_lent f t (over (cores f) c) x) (leaves f t c y)
  one_same c =
      let m = lent-counted f t ok x w (over (cores f) c) in
      let n = call-counted f t ok y v c in
      same_of f t (leaves_lent f t (over (cores f) c) x) m.ready (leaves f t c y) n.lendable
      (m.whole
      ∙ ap₂ (λ (r : ℕ) (z : State). run (task_of f t) (pick (eqb r 0) (steps_in c) []) z) (one_number c) same.whole
      ∙ sym n.whole)

pub same-calls : (f t : List ℕ) → AcceptedSet f t → (cs : List Call) (x : Lent) → Ready f t x → (y : Left) → Lendable f t y → HoldsSame f x y → SameCalls f t cs x y
same-calls f t ok [] x w y v same = no_call same
same-calls f t ok (c ∷ cs) x w y v same =
    one-call same (one_number f t ok x w y v same c)
    (same-calls f t ok cs (leaves_lent f t (over (cores f) c) x) (lent-counted f t ok x w (over (cores f) c)).ready (leaves f t c y) (call-counted f t ok y v c).lendable (one_same f t ok x w y v same c))

pub lent-by-value : (f t : List ℕ) → ((i : ℕ) → get_or f i 0 < 256) → ((i : ℕ) → get_or t i 0 < 256) → (ys : List CoreRecord) (p : Semaphore) (d sh : List ℕ)
    → (fresh_lent f ys p d sh).refusal ≡ 0 → trace_refusal f t ≡ 0 → (cs : List Call) → SameCalls f t cs (fresh_lent f ys p d sh) (fresh_call f d sh)
unfolding fresh_refusal
lent-by-value f t bytes trace-bytes ys p d sh e sound cs =
    let granted-fresh = fresh-granted f ys p d sh e in
    let ok : AcceptedSet f t = accepted-set f t bytes trace-bytes (next-zero _ _ granted-fresh).0 sound in
    let ready = fresh-ready f ys p d sh e t ok in
    let lends = subst (Lendable f t) (sym (value-left f ys p d sh e)) (value-lendable f ys p d sh e t ok) in
    same-calls f t ok cs (fresh_lent f ys p d sh) ready (fresh_call f d sh) lends
    (same_of f t (fresh_lent f ys p d sh) ready (fresh_call f d sh) lends
    (lent-fresh f ys p d sh e t ok ∙ sym (ap (whole_of f) (value-left f ys p d sh e) ∙ value-fresh f ys p d sh e t ok)))

-- ---- the takings of a run over a lent table

-- what a run by value that is not refused wrote
ran-is : (f t : List ℕ) (h : Held) (d sh order list : List ℕ) → run_refusal f t h d sh order list ≡ 0
    → ((run_call f t h d sh order list).order ≡ splice list 0 (map encoded (takings (task_of f t) order (state_of f h d sh))))
    × ((run_call f t h d sh order list).answer.taken ≡ length (takings (task_of f t) order (state_of f h d sh)))
unfolding run_call ran_call
ran-is f t h d sh order list z =
    let q : run_call f t h d sh order list ≡ ran_call f t h d sh order list = pick_true _ _ _ (eq-eqb _ 0 z) in
    (ap (λ (l : Left). l.order) q, ap (λ (l : Left). l.answer.taken) q ∙ length-map (takings (task_of f t) order (state_of f h d sh)) encoded)

pub run-listed : (f t : List ℕ) (ys : List CoreRecord) (p : Semaphore) (d sh order list : List ℕ) (taken : ℕ) → (run_lent f t ys p d sh order list).refusal ≡ 0 → RunLentListed f t ys p d sh order list taken
unfolding run_lent run_table taken_lent taken_table
run-listed f t ys p d sh order list taken e =
    let h = held (loaded ys) p in
    let accepted : (run_call f t h d sh order list).answer.refusal ≡ 0 = sym (table-number ys p (run_call f t h d sh order list)) ∙ e in
    let ran = ran-is f t h d sh order list (sym (run-number f t h d sh order list) ∙ accepted) in
    record {
      listed = ran.0;
      counted = pick_true _ _ _ (eq-eqb _ 0 accepted) ∙ ran.1;
    }
