-- What lists of calls on a lent table wrote, rerun on a lent table: the calls are steps (`lent-counted`), the list is that of their takings, and the rerun on the table is
-- the one by value, written to its first n records. In order: what a call wrote; lists of calls; the rerun on a table; the claim. Assumes nothing.
use mathlib.Core.Path.{◌≡◌, refl, sym, ap, ap₂, ◌∙◌, subst}
use mathlib.Core.Bool.{Bool, true, false}
use mathlib.Core.List.{List, [], ◌∷◌, ◌++◌}
use Prim.Native.Nat.{ℕ, ◌≤◌, ◌<◌}
use native.Mathlib.Omega.{arith}
use borrow.Author.Tests.{le-leb, leb-true, eq-eqb, eqb-true, eqb-false}
use lib.Dec.{eqb, leb, ltb}
use lib.Seq.{get_or-take}
use lib.ListN.{length, get_or, take, length-take, length-map}
use Rattle.verdict.proofs.Verdict.{pick_true, pick-false, next-zero}
use Rattle.protocol.specs.Step.{takings, encoded, order_list}
use Rattle.protocol.specs.Rerun.{Settled, unlined}
use Rattle.records.specs.File.{cores}
use Rattle.taskset.specs.Trace.{trace_refusal}
use Rattle.taskset.specs.Fresh.{fresh_of}
use Rattle.semaphore.specs.declared.Semaphore.{Semaphore}
use Rattle.states.specs.declared.Held.{Held}
use Rattle.states.specs.Task.{task_of}
use Rattle.states.specs.Set.{AcceptedSet}
use Rattle.states.specs.Machine.{state_of, held_after, data_of}
use Rattle.states.proofs.Accepted.{accepted-set}
use Rattle.runner.specs.declared.RunAnswer.{RunAnswer}
use Rattle.runner.specs.Runs.{Left}
use Rattle.machine.specs.Calls.{lent_fits, table_of, fresh_refusal, run_refusal, run_call}
use Rattle.machine.proofs.Calls.{granted as call-granted}
use Rattle.calls.specs.Calling.{Lending, lent_of, stepping, running, whole_of}
use Rattle.calls.proofs.Calling.{lent-all, memory-all, shared-all}
use Rattle.calls.proofs.Back.{sized-back}
use Rattle.rerun.specs.Calls.{reran, rerun_left, rerun_call}
use Rattle.rerun.proofs.Claims.{call-rerun, granted, known, fit-reran, few-listed, front_of, list-append}
use Rattle.snapshot.specs.declared.CoreRecord.{CoreRecord}
use Rattle.snapshot.specs.Snapshot.{no_record, counted, held, core_of, accepted_of, on_table, run_table, rerun_table}
use Rattle.snapshot.proofs.Laws.{on-accepted}
use Rattle.rikzord.specs.Lent.{record_at, loaded, stored_records, Lent, lent, written_back, run_lent, fresh_lent, rerun_lent}
use Rattle.lent_calls.specs.Calling.{LentCall, over, leaves_lent, whole_lent, counts_lent, lent_steps_of}
use Rattle.lent_calls.specs.Rerun.{written_lent_by, written_lent_of, LentRerun}
use Rattle.lent_calls.proofs.Unchanged.{taken_refused}
use Rattle.lent_calls.proofs.TableState.{state-same, stored-length, stored_at}
use Rattle.lent_calls.proofs.OneCall.{left_by_value, Ready, rows_all, rows-known, lent-counted}
use Rattle.lent_calls.proofs.Calling.{fresh-granted, fresh-ready, lent-fresh, lent-interleaved}
use Rattle.lent_calls.proofs.ByValue.{table-number, run-number, run-listed}

-- ---- what a call wrote

module _ (f t : List ℕ) (ok : AcceptedSet f t) (x : Lent) (w : Ready f t x) (rows : ℕ) (a b : Lending) (order list : List ℕ) where
  abbrev zs : List CoreRecord
  zs = take rows x.table

  abbrev h : Held
  h = held (loaded zs) x.semaphore

  abbrev d : List ℕ
  d = lent_of a x.memory

  abbrev sh : List ℕ
  sh = lent_of b x.shared

  abbrev call : LentCall
  call = over rows (running a b order list)

  number : (leaves_lent f t call x).refusal ≡ run_refusal f t h d sh order list
  unfolding run_lent run_table
  number = table-number zs x.semaphore (run_call f t h d sh order list) ∙ run-number f t h d sh order list

  run-wrote : written_lent_by f t call x ≡ order_list (task_of f t) (counts_lent f t call x) (whole_lent f x)
  unfolding run_refusal
  run-wrote = go (eqb (run_refusal f t h d sh order list) 0) refl
    where
      go : (q : Bool) → eqb (run_refusal f t h d sh order list) 0 ≡ q → written_lent_by f t call x ≡ order_list (task_of f t) (counts_lent f t call x) (whole_lent f x)
      go true e =
          let z : run_refusal f t h d sh order list ≡ 0 = eqb-true _ _ e in
          let all = call-granted f t h _ _ _ _ z in
          let whole : state_of f h d sh ≡ whole_lent f x =
          (λ i. state_of f (held (loaded (rows_all f t ok x w rows a b (rows-known f t ok x w rows a b d sh _ _ z) i)) x.semaphore)
          (lent-all x.memory a (memory-all f t ok (left_by_value f x) w.lendable a b all.memory all.shared-memory) i)
          (lent-all x.shared b (shared-all f t ok (left_by_value f x) w.lendable a b all.memory all.shared-memory) i)) in
          let listed = run-listed f t zs x.semaphore d sh order list 0 (number ∙ z) in
          let ys = order_list (task_of f t) order (state_of f h d sh) in
          ap₂ (λ (n : ℕ) (l : List ℕ). take n l) (listed.counted ∙ sym (length-map (takings (task_of f t) order (state_of f h d sh)) encoded)) listed.listed
          ∙ front_of list ys (omega (arith, few-listed (task_of f t) order (state_of f h d sh), leb-true (length order) (length list) all.listed))
          ∙ ap (order_list (task_of f t) order) whole
          ∙ ap (λ (ks : List ℕ). order_list (task_of f t) ks (whole_lent f x)) (sym (pick_true _ _ _ (eq-eqb _ 0 (number ∙ z))))
      go false e =
          let ne = eqb-false _ _ e in
          ap (λ (n : ℕ). take n (leaves_lent f t call x).order) (taken_refused f t zs x.semaphore d sh order list 0 ne)
          ∙ ap (λ (ks : List ℕ). order_list (task_of f t) ks (whole_lent f x)) (sym (pick-false _ _ _ (ap (λ (n : ℕ). eqb n 0) number ∙ e)))

call-wrote : (f t : List ℕ) → AcceptedSet f t → (x : Lent) → Ready f t x → (c : LentCall) → written_lent_by f t c x ≡ order_list (task_of f t) (counts_lent f t c x) (whole_lent f x)
call-wrote f t ok x w (over rows (stepping a b k)) = refl
call-wrote f t ok x w (over rows (running a b order list)) = run-wrote f t ok x w rows a b order list

-- ---- lists of calls

calls-wrote : (f t : List ℕ) → AcceptedSet f t → (cs : List LentCall) (x : Lent) → Ready f t x → written_lent_of f t cs x ≡ order_list (task_of f t) (lent_steps_of f t cs x) (whole_lent f x)
calls-wrote f t ok [] x w = refl
calls-wrote f t ok (c ∷ cs) x w =
    let y = lent-counted f t ok x w c in
    ap₂ (λ (l m : List ℕ). l ++ m) (call-wrote f t ok x w c)
    (calls-wrote f t ok cs (leaves_lent f t c x) y.ready ∙ ap (order_list (task_of f t) (lent_steps_of f t cs (leaves_lent f t c x))) y.whole)
    ∙ sym (list-append (task_of f t) (counts_lent f t c x) (lent_steps_of f t cs (leaves_lent f t c x)) (whole_lent f x))

-- ---- the rerun on a table of at least n records

module _ (f t list : List ℕ) (ok : AcceptedSet f t) (ys : List CoreRecord) (p : Semaphore) (d sh : List ℕ) (long : cores f ≤ length ys) (fits : lent_fits f (length d) (length sh) ≡ true)
    (z : (rerun_call f t list d sh).answer.refusal ≡ 0) where
  long-counted : leb (cores f) (counted (length ys)) ≡ true
  long-counted = go (ltb (length ys) 255) refl
    where
      go : (q : Bool) → ltb (length ys) 255 ≡ q → leb (cores f) (counted (length ys)) ≡ true
      go true l = le-leb (cores f) (counted (length ys)) (omega (arith, long, pick_true (ltb (length ys) 255) (length ys) 255 l))
      go false l = le-leb (cores f) (counted (length ys)) (omega (arith, ok.few, pick-false (ltb (length ys) 255) (length ys) 255 l))

  abbrev s : Held
  s = held_after (cores f) (table_of (cores f) 4) (reran f t list)

  abbrev done : RunAnswer
  done = record { refusal = 0; taken = length list; state = s }

  abbrev made : List CoreRecord
  made = stored_records ys (accepted_of (loaded ys) s)

  rerun-left : rerun_lent f t list ys p d sh ≡ lent 0 made s.semaphore (data_of (reran f t list)) (reran f t list).plant.shared []
  unfolding rerun_lent rerun_table rerun_left
  rerun-left =
      ap (λ (l : Left). written_back ys (on_table (loaded ys) p l)) (pick_true _ _ _ long-counted ∙ granted f t list d sh ok fits (known f t list d sh ok fits z))
      ∙ ap (written_back ys) (on-accepted (loaded ys) p done (data_of (reran f t list)) (reran f t list).plant.shared [] refl)
      ∙ ap (λ (l : List CoreRecord). lent 0 l s.semaphore (data_of (reran f t list)) (reran f t list).plant.shared []) (pick_true _ _ _ refl)

  full : length (take (cores f) made) ≡ cores f
  full = omega (arith, length-take (cores f) made, stored-length ys (accepted_of (loaded ys) s), long)

  at : (k : ℕ) → k < cores f → record_at (take (cores f) made) k ≡ core_of s k
  unfolding held_after table_of
  at k l = get_or-take (cores f) made k no_record l ∙ stored_at s ys (cores f) ok.few refl long k l

  rerun-whole : whole_lent f (rerun_lent f t list ys p d sh) ≡ whole_of f (rerun_call f t list d sh)
  unfolding rerun_left
  rerun-whole =
      let sized = sized-back f t ok.few (table_of (cores f) 4) (reran f t list) (fit-reran f t list d sh ok fits (known f t list d sh ok fits z)) in
      ap (whole_lent f) rerun-left
      ∙ state-same f ok.few s sized.places sized.offsets (take (cores f) made) full at (data_of (reran f t list)) (reran f t list).plant.shared
      ∙ sym (ap (whole_of f) (granted f t list d sh ok fits (known f t list d sh ok fits z)))

-- ---- the claim; that f and t are bytes is known of the types

pub lent-rerun : (f t : List ℕ) → ((i : ℕ) → get_or f i 0 < 256) → ((i : ℕ) → get_or t i 0 < 256) → (ys : List CoreRecord) (p : Semaphore) (d sh : List ℕ)
    → (fresh_lent f ys p d sh).refusal ≡ 0 → trace_refusal f t ≡ 0 → (cs : List LentCall) (ys' : List CoreRecord) (p' : Semaphore) (d' sh' : List ℕ) → cores f ≤ length ys'
    → lent_fits f (length d') (length sh') ≡ true → LentRerun f t ys p d sh cs ys' p' d' sh'
unfolding fresh_refusal
lent-rerun f t bytes trace-bytes ys p d sh e sound cs ys' p' d' sh' long fits =
    let ok : AcceptedSet f t = accepted-set f t bytes trace-bytes (next-zero _ _ (fresh-granted f ys p d sh e)).0 sound in
    let x = fresh_lent f ys p d sh in
    let ks = lent_steps_of f t cs x in
    let list = written_lent_of f t cs x in
    let wrote : list ≡ order_list (task_of f t) ks (fresh_of f) =
    calls-wrote f t ok cs x (fresh-ready f ys p d sh e t ok) ∙ ap (order_list (task_of f t) ks) (lent-fresh f ys p d sh e t ok) in
    let steps = (lent-interleaved f t bytes trace-bytes ys p d sh e sound cs).steps in
    let y = call-rerun f t list d' sh' ok fits in
    let z : (rerun_call f t list d' sh').answer.refusal ≡ 0 = y.never-refused ks (sym wrote) in
    record {
      wrote = wrote;
      taken = ap (λ (v : Lent). v.refusal) (rerun-left f t list ok ys' p' d' sh' long fits z);
      alike = λ s. rerun-whole f t list ok ys' p' d' sh' long fits z ∙ y.ends ks (sym wrote) (subst Settled steps s) ∙ ap unlined (sym steps);
    }
