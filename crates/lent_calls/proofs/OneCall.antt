-- One call on a lent table is the steps that it counts as, of the state that the table holds, and leaves a table that can be lent to the next.
-- In order: what can be lent; a refused call; an accepted one; a step and a run; any call.
-- Not here: the table alone (`TableState`), lists of calls (`Calling`), the same calls by value (`ByValue`). Assumes nothing.
use mathlib.Core.Path.{◌≡◌, refl, sym, ap, ◌∙◌, subst}
use mathlib.Core.Logic.{◌≢◌}
use mathlib.Core.Bool.{Bool, true, false}
use mathlib.Core.List.{List, [], ◌∷◌, ◌++◌}
use Prim.Native.Nat.{ℕ, ◌≤◌, ◌<◌}
use native.Mathlib.Omega.{arith}
use borrow.Author.Tests.{leb-true, leb-false, eq-eqb, ne_eqb, eqb-true, eqb-false}
use lib.Dec.{eqb, leb, ltb}
use lib.Seq.{take_at, take_all}
use lib.ListN.{length, take, drop, length-take, length-append, take-append-drop}
use Rattle.verdict.specs.Verdict.{pick}
use Rattle.verdict.proofs.Verdict.{pick_true, pick-false}
use Rattle.protocol.specs.Step.{run}
use Rattle.records.specs.File.{cores}
use Rattle.states.specs.declared.Held.{Held}
use Rattle.states.specs.Task.{task_of}
use Rattle.states.specs.Set.{AcceptedSet}
use Rattle.states.specs.Machine.{state_of}
use Rattle.states.proofs.Exactly.{fit-accepted}
use Rattle.runner.specs.Runs.{Left, left_as, ran_call}
use Rattle.machine.specs.Calls.{call_refusal, answer_of, run_refusal, run_call, step_refusal, step_call}
use Rattle.calls.specs.Calling.{Lending, entire, front, lent_of, replaced, stepping, running, restored}
use Rattle.machine.proofs.Calls.{granted}
use Rattle.calls.proofs.Calling.{Lendable, Counted, step-counted, run-counted}
use Rattle.snapshot.specs.declared.CoreRecord.{CoreRecord}
use Rattle.snapshot.specs.Snapshot.{counted, held_places, held_offsets, held, core_of, accepted_of, TableLeft, on_table, step_table, run_table}
use Rattle.rikzord.specs.Lent.{record_at, loaded, stored_records, Lent, lent, written_back, step_lent, run_lent}
use Rattle.lent_calls.specs.Calling.{LentCall, over, restored_lent, leaves_lent, whole_lent, counts_lent}
use Rattle.snapshot.proofs.Laws.{on-accepted}
use Rattle.lent_calls.proofs.Unchanged.{refused-lent}
use Rattle.lent_calls.proofs.TableState.{entries-length, state-same, lendable-same, stored-length, stored_at}

-- the state that a table holds, by value, with the memories
abbrev pub left_by_value : List ℕ → Lent → Left
left_by_value f x = left_as (answer_of 0 (held (loaded (take (cores f) x.table)) x.semaphore)) x.memory x.shared []

-- what a call left can be lent to the next
pub record Ready (f t : List ℕ) (x : Lent) : Type 0 where
  pub rows : cores f ≤ length x.table
  pub lendable : Lendable f t (left_by_value f x)

-- a call whose steps are ks, made with what x has, left y
pub record CountedLent (f t : List ℕ) (x y : Lent) (ks : List ℕ) : Type 0 where
  pub whole : whole_lent f y ≡ run (task_of f t) ks (whole_lent f x)
  pub ready : Ready f t y

replaced-same : (a : Lending) (m : List ℕ) → replaced a m (lent_of a m) ≡ m
replaced-same entire m = refl
replaced-same (front n) m = take-append-drop n m

module _ (f t : List ℕ) (ok : AcceptedSet f t) (x : Lent) (w : Ready f t x) (rows : ℕ) (a b : Lending) where
  abbrev lent_rows : List CoreRecord
  lent_rows = take rows x.table

  abbrev state : Held
  state = held (loaded lent_rows) x.semaphore

  -- what the call by value left, y, as the call on the table leaves it
  abbrev left_by : Left → Lent
  left_by y = restored_lent rows a b x (written_back lent_rows (on_table (loaded lent_rows) x.semaphore y))

  pub refused-call : (ks list : List ℕ) (r : ℕ) (y : Left) → r ≢ 0 → y ≡ left_as (answer_of r state) (lent_of a x.memory) (lent_of b x.shared) list
      → CountedLent f t x (left_by y) (pick (eqb (left_by y).refusal 0) ks [])
  refused-call ks list r y ne e =
      let q : left_by y ≡ lent r x.table x.semaphore x.memory x.shared list =
      ap (λ (z : Left). left_by z) e
      ∙ ap (restored_lent rows a b x) (refused-lent lent_rows x.semaphore (lent_of a x.memory) (lent_of b x.shared) list r state ne)
      ∙ (λ i. lent r (take-append-drop rows x.table i) x.semaphore (replaced-same a x.memory i) (replaced-same b x.shared i) list) in
      subst (λ (z : Lent). CountedLent f t x z (pick (eqb z.refusal 0) ks [])) (sym q)
      (subst (CountedLent f t x (lent r x.table x.semaphore x.memory x.shared list)) (sym (pick-false _ _ _ (ne_eqb r 0 ne)))
      record { whole = refl; ready = record { rows = w.rows; lendable = w.lendable } })

  pub accepted-call : (ks : List ℕ) (y : Left) → y.answer.refusal ≡ 0 → length lent_rows ≡ cores f → Counted f t (left_by_value f x) (restored a b (left_by_value f x) y) ks
      → CountedLent f t x (left_by y) (pick (eqb (left_by y).refusal 0) ks [])
  accepted-call ks y z n c =
      let s = y.answer.state in
      let zs = stored_records lent_rows (accepted_of (loaded lent_rows) s) in
      let q : left_by y ≡ restored_lent rows a b x (lent 0 zs s.semaphore y.memory y.shared y.order) =
      ap (λ (l : TableLeft). restored_lent rows a b x (written_back lent_rows l)) (on-accepted (loaded lent_rows) x.semaphore y.answer y.memory y.shared y.order z)
      ∙ ap (λ (l : List CoreRecord). restored_lent rows a b x (lent 0 l s.semaphore y.memory y.shared y.order)) (pick_true _ _ _ refl) in
      let full : length zs ≡ cores f = stored-length lent_rows (accepted_of (loaded lent_rows) s) ∙ n in
      let front-rows : take (cores f) (zs ++ drop rows x.table) ≡ zs = take_at zs _ (cores f) full in
      let memory = replaced a x.memory y.memory in
      let shared = replaced b x.shared y.shared in
      let at : (k : ℕ) → k < cores f → record_at zs k ≡ core_of s k = stored_at s lent_rows (cores f) ok.few c.lendable.count (omega (arith, n)) in
      let same = state-same f ok.few s c.lendable.sized.places c.lendable.sized.offsets zs full at memory shared in
      let lends = lendable-same f ok.few s c.lendable.sized.places c.lendable.sized.offsets zs full at t memory shared y.order [] y.answer.refusal 0
      record { count = c.lendable.count; line = c.lendable.line; sized = c.lendable.sized; fit = c.lendable.fit } in
      subst (λ (v : Lent). CountedLent f t x v (pick (eqb v.refusal 0) ks [])) (sym q)
      (subst (CountedLent f t x (restored_lent rows a b x (lent 0 zs s.semaphore y.memory y.shared y.order))) (sym (pick_true _ _ _ refl))
      record {
        whole = ap (λ (l : List CoreRecord). state_of f (held (loaded l) s.semaphore) memory shared) front-rows ∙ same ∙ c.whole;
        ready = record {
          rows = omega (arith, length-append zs (drop rows x.table), full);
          lendable = subst (λ (l : List CoreRecord). Lendable f t (left_as (answer_of 0 (held (loaded l) s.semaphore)) memory shared [])) (sym front-rows) lends;
        };
      })

  -- the table's lent part has n records, so it is its first n
  pub rows_all : length lent_rows ≡ cores f → lent_rows ≡ take (cores f) x.table
  rows_all e = go (leb rows (length x.table)) refl
    where
      go : (q : Bool) → leb rows (length x.table) ≡ q → lent_rows ≡ take (cores f) x.table
      go true l =
          let m : rows ≡ cores f = omega (arith, leb-true rows (length x.table) l, length-take rows x.table, e) in
          ap (λ (n : ℕ). take n x.table) m
      go false l =
          let m : length x.table ≡ cores f = omega (arith, leb-false rows (length x.table) l, length-take rows x.table, e) in
          take_all rows x.table (omega (arith, leb-false rows (length x.table) l)) ∙ sym (take_all (cores f) x.table (omega (arith, m)))

  -- a state that a call accepts has n records
  rows_few : counted (length lent_rows) ≡ cores f → length lent_rows ≡ cores f
  rows_few e = go (ltb (length lent_rows) 255) refl
    where
      go : (q : Bool) → ltb (length lent_rows) 255 ≡ q → length lent_rows ≡ cores f
      go true l = sym (pick_true _ _ _ l) ∙ e
      go false l = absurd (omega (arith, ok.few, sym (pick-false (ltb (length lent_rows) 255) (length lent_rows) 255 l) ∙ e))

  pub rows-known : (d sh : List ℕ) (room named : Bool) → call_refusal f t state (length d) (length sh) room named ≡ 0 → length lent_rows ≡ cores f
  unfolding held held_places held_offsets
  rows-known d sh room named e =
      let known = granted f t state _ _ _ _ e in
      rows_few (fit-accepted f t ok state d sh record { memory = known.memory; shared = known.shared-memory; places = entries-length _ _ _ _; offsets = entries-length _ _ _ _ } known.state).0.0

  abbrev d : List ℕ
  d = lent_of a x.memory

  abbrev sh : List ℕ
  sh = lent_of b x.shared

  -- the call by value of the state that the table's first n records hold is the call of the state that its lent part holds, where that has n records
  same-call : (call : Held → Left) (ks : List ℕ) → (call state).answer.refusal ≡ 0 → length lent_rows ≡ cores f
      → Counted f t (left_by_value f x) (restored a b (left_by_value f x) (call (left_by_value f x).answer.state)) (pick (eqb (call (left_by_value f x).answer.state).answer.refusal 0) ks [])
      → CountedLent f t x (left_by (call state)) (pick (eqb (left_by (call state)).refusal 0) ks [])
  same-call call ks z n c =
      let q : (left_by_value f x).answer.state ≡ state = ap (λ (l : List CoreRecord). held (loaded l) x.semaphore) (sym (rows_all n)) in
      accepted-call ks (call state) z n
      (subst (Counted f t (left_by_value f x) (restored a b (left_by_value f x) (call state))) (pick_true _ _ _ (eq-eqb _ 0 z))
      (subst (λ (s : Held). Counted f t (left_by_value f x) (restored a b (left_by_value f x) (call s)) (pick (eqb (call s).answer.refusal 0) ks [])) q c))

  pub step-lent-counted : (k : ℕ) → CountedLent f t x (leaves_lent f t (over rows (stepping a b k)) x) (counts_lent f t (over rows (stepping a b k)) x)
  unfolding step_lent step_table step_call step_refusal
  step-lent-counted k = go (eqb (step_refusal f t state d sh k) 0) refl
    where
      go : (q : Bool) → eqb (step_refusal f t state d sh k) 0 ≡ q → CountedLent f t x (leaves_lent f t (over rows (stepping a b k)) x) (counts_lent f t (over rows (stepping a b k)) x)
      go true e =
          same-call (λ (s : Held). step_call f t s d sh k) (k ∷ []) (ap (λ (y : Left). y.answer.refusal) (pick_true _ _ _ e)) (rows-known d sh _ _ (eqb-true _ _ e))
          (step-counted f t ok (left_by_value f x) w.lendable a b k)
      go false e = refused-call (k ∷ []) [] (step_refusal f t state d sh k) (step_call f t state d sh k) (eqb-false _ _ e) (pick-false _ _ _ e)

  pub run-lent-counted : (order list : List ℕ) → CountedLent f t x (leaves_lent f t (over rows (running a b order list)) x) (counts_lent f t (over rows (running a b order list)) x)
  unfolding run_lent run_table run_call run_refusal ran_call
  run-lent-counted order list = go (eqb (run_refusal f t state d sh order list) 0) refl
    where
      go : (q : Bool) → eqb (run_refusal f t state d sh order list) 0 ≡ q → CountedLent f t x (leaves_lent f t (over rows (running a b order list)) x) (counts_lent f t (over rows (running a b order list)) x)
      go true e =
          same-call (λ (s : Held). run_call f t s d sh order list) order (ap (λ (y : Left). y.answer.refusal) (pick_true _ _ _ e)) (rows-known d sh _ _ (eqb-true _ _ e))
          (run-counted f t ok (left_by_value f x) w.lendable a b order list)
      go false e = refused-call order list (run_refusal f t state d sh order list) (run_call f t state d sh order list) (eqb-false _ _ e) (pick-false _ _ _ e)

pub lent-counted : (f t : List ℕ) → AcceptedSet f t → (x : Lent) → Ready f t x → (c : LentCall) → CountedLent f t x (leaves_lent f t c x) (counts_lent f t c x)
lent-counted f t ok x w (over rows (stepping a b k)) = step-lent-counted f t ok x w rows a b k
lent-counted f t ok x w (over rows (running a b order list)) = run-lent-counted f t ok x w rows a b order list
