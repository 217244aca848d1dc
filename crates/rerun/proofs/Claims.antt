-- The rerun of the real machine: crate protocol's theorem, and what the call leaves as a state of it. In order: of steps; of the call; what calls wrote; of lists
-- of calls. Assumes nothing.
use mathlib.Core.Path.{◌≡◌, refl, sym, ap, ap₂, ◌∙◌, subst}
use mathlib.Core.Bool.{Bool, true, false}
use mathlib.Core.List.{List, [], ◌∷◌, ◌++◌, map, map-append}
use mathlib.Core.Option.{some}
use Prim.Native.Nat.{ℕ, ◌≤◌, ◌<◌}
use native.Mathlib.Omega.{arith}
use borrow.Author.Tests.{eq-eqb, ne_eqb, eqb-true, eqb-false, leb-true}
use lib.Dec.{eqb}
use lib.ListN.{length, get_or, take, length-map, length-append}
use lib.Seq.{take-append_seam}
use Rattle.verdict.specs.Verdict.{pick}
use Rattle.verdict.proofs.Verdict.{pick_true, pick-false, by-pick, yes, no, next-zero}
use Rattle.memory.specs.Memory.{splice}
use Rattle.memory.proofs.Laws.{splice-is}
use Rattle.protocol.specs.State.{State, Task, core, mode}
use Rattle.protocol.specs.Step.{step, run, Taking, taken, taking_of, takings, encoded, order_list}
use Rattle.protocol.specs.Rerun.{legal, rerun_end, decoded, Settled, Producing, unlined}
use Rattle.protocol.proofs.Rerun.{rerun-holds}
use Rattle.protocol.proofs.Steps.{takings-append}
use Rattle.records.specs.File.{cores}
use Rattle.taskset.specs.Judge.{judge}
use Rattle.taskset.specs.Trace.{trace_refusal}
use Rattle.taskset.specs.Fresh.{fresh_of}
use Rattle.taskset.proofs.Accepted.{fresh-of}
use Rattle.states.specs.Task.{task_of}
use Rattle.states.specs.Machine.{state_of}
use Rattle.states.specs.Fit.{Fit}
use Rattle.states.specs.Set.{AcceptedSet}
use Rattle.states.proofs.Executes.{executes}
use Rattle.states.proofs.Fresh.{fresh-fit}
use Rattle.states.proofs.Accepted.{accepted-set}
use Rattle.runner.specs.Runs.{Left, ran_call}
use Rattle.machine.specs.Calls.{lent_fits, table_of, fresh_refusal, fresh_call, run_refusal, run_call}
use Rattle.calls.specs.Calling.{Lending, lent_of, Call, stepping, running, leaves, whole_of, counts_as, steps_of}
use Rattle.machine.proofs.Calls.{granted as call-granted}
use Rattle.calls.proofs.Calling.{Lendable, lent-all, memory-all, shared-all, call-counted, run-fit, fresh-whole, fresh-lendable, calls-interleaved}
use Rattle.calls.proofs.Back.{state-back}
use Rattle.rerun.specs.Calls.{list_refusal, rerun_refusal, reran, rerun_left, rerun_call}
use Rattle.rerun.specs.Rerun.{MachineRerun, CallRerun, written_by, written_of, CallsRerun}
use Rattle.rerun.proofs.Ends.{refused-list}

-- ---- of steps

pub rerun-machine : (f t : List ℕ) → AcceptedSet f t → (bs : List ℕ) → MachineRerun f t bs
rerun-machine f t ok bs = rerun-holds (task_of f t) (executes f t ok).laws (fresh_of f) (fresh-of f) (omega (arith, (fresh-fit f t ok).table, ok.few)) bs

-- ---- of the call

some_same : {a b : State} → some a ≡ some b → a ≡ b
some_same e = cc

module _ (f t list d sh : List ℕ) (ok : AcceptedSet f t) (fits : lent_fits f (length d) (length sh) ≡ true) where
  abbrev lawful : Bool
  lawful = legal (task_of f t) (map decoded list) (fresh_of f).plant

  number_is : list_refusal f t list ≡ rerun_refusal f t list (length d) (length sh)
  number_is = refused-list f t list d sh ok.file fits ok.trace refl

  pub granted : lawful ≡ true → rerun_call f t list d sh ≡ rerun_left f t list
  unfolding rerun_call list_refusal
  granted e = pick_true _ _ _ (eq-eqb _ _ (sym number_is ∙ yes _ 33 e))

  turned-away : lawful ≡ false → (rerun_call f t list d sh).answer.refusal ≡ 33
  unfolding rerun_call list_refusal
  turned-away e =
      let n : rerun_refusal f t list (length d) (length sh) ≡ 33 = sym number_is ∙ no _ 33 e in
      ap (λ (x : Left). x.answer.refusal) (pick-false _ _ _ (ne_eqb (rerun_refusal f t list (length d) (length sh)) 0 (λ z. let y : ⊥ = omega (arith, n, z) in y))) ∙ n

  pub known : (rerun_call f t list d sh).answer.refusal ≡ 0 → lawful ≡ true
  known z = go lawful refl
    where
      go : (b : Bool) → lawful ≡ b → b ≡ true
      go true e = refl
      go false e = absurd (let y : ⊥ = omega (arith, turned-away e) in y)

  lawful-of : (ks : List ℕ) → order_list (task_of f t) ks (fresh_of f) ≡ list → lawful ≡ true
  lawful-of ks q = go lawful refl
    where
      go : (b : Bool) → lawful ≡ b → b ≡ true
      go true e = refl
      go false e = absurd ((rerun-machine f t ok list).never-refused ks q (pick-false _ _ _ e))

  module _ (e : lawful ≡ true) where
    made : Producing (task_of f t) (fresh_of f) list (reran f t list)
    made = (rerun-machine f t ok list).produced (reran f t list) (pick_true _ _ _ e)

    pub fit-reran : Fit f t (reran f t list)
    fit-reran = subst (Fit f t) made.end (run-fit f t ok made.steps (fresh_of f) (fresh-fit f t ok))

    whole-reran : whole_of f (rerun_call f t list d sh) ≡ reran f t list
    unfolding rerun_left
    whole-reran = ap (whole_of f) (granted e) ∙ state-back f t ok.few (table_of (cores f) 4) (reran f t list) fit-reran

  not-refused : lawful ≡ true → (rerun_call f t list d sh).answer.refusal ≡ 0
  unfolding rerun_left
  not-refused e = ap (λ (x : Left). x.answer.refusal) (granted e)

  pub call-rerun : CallRerun f t list d sh
  call-rerun = record {
    ends = λ ks q s. whole-reran (lawful-of ks q) ∙ some_same (sym (pick_true _ _ _ (lawful-of ks q)) ∙ (rerun-machine f t ok list).ends ks q s);
    never-refused = λ ks q. not-refused (lawful-of ks q);
    produced = λ z. subst (Producing (task_of f t) (fresh_of f) list) (sym (whole-reran (known z))) (made (known z));
    empty = λ q. whole-reran (ap (λ (l : List ℕ). legal (task_of f t) (map decoded l) (fresh_of f).plant) q) ∙ ap (λ (l : List ℕ). rerun_end (task_of f t) (map decoded l) (fresh_of f)) q ∙ fresh-again;
  }
    where
      fresh-again : rerun_end (task_of f t) [] (fresh_of f) ≡ fresh_of f
      fresh-again = λ i. record { plant = (fresh_of f).plant; semaphore = record { holder = sym (fresh-of f).free i; line = sym (fresh-of f).empty i } }

-- ---- what calls wrote

one-taking : (m m' k : ℕ) → length (taken m m' k) ≤ 1
one-taking m m' k =
    by-pick (λ (l : List Taking). length l ≤ 1) _ _ _ (λ e. omega arith)
    (λ e. by-pick (λ (l : List Taking). length l ≤ 1) _ _ _ (λ z. omega arith) (λ z. omega arith))

pub few-listed : (t : Task) (ks : List ℕ) (s : State) → length (order_list t ks s) ≤ length ks
unfolding taking_of
few-listed t [] s = omega arith
few-listed t (k ∷ ks) s =
    let one : length (taking_of t k s) ≤ 1 = one-taking (mode (core s.plant k)) (mode (core (step t k s).plant k)) k in
    let rest = few-listed t ks (step t k s) in
    omega (arith, length-map (taking_of t k s ++ takings t ks (step t k s)) encoded, length-append (taking_of t k s) (takings t ks (step t k s)), length-map (takings t ks (step t k s)) encoded)

pub front_of : (list ys : List ℕ) → length ys ≤ length list → take (length ys) (splice list 0 ys) ≡ ys
front_of list ys h = ap (take (length ys)) (splice-is list 0 ys (omega arith)) ∙ take-append_seam ys _

module _ (f t : List ℕ) (ok : AcceptedSet f t) (x : Left) (w : Lendable f t x) where
  run-wrote : (a b : Lending) (order list : List ℕ) → written_by f t (running a b order list) x ≡ order_list (task_of f t) (counts_as f t (running a b order list) x) (whole_of f x)
  unfolding run_call run_refusal ran_call pick
  run-wrote a b order list = go (eqb (run_refusal f t x.answer.state (lent_of a x.memory) (lent_of b x.shared) order list) 0) refl
    where
      go : (q : Bool) → eqb (run_refusal f t x.answer.state (lent_of a x.memory) (lent_of b x.shared) order list) 0 ≡ q
          → written_by f t (running a b order list) x ≡ order_list (task_of f t) (counts_as f t (running a b order list) x) (whole_of f x)
      go true e =
          let known = call-granted f t x.answer.state _ _ _ _ (eqb-true _ _ e) in
          let m = lent-all x.memory a (memory-all f t ok x w a b known.memory known.shared-memory) in
          let n = lent-all x.shared b (shared-all f t ok x w a b known.memory known.shared-memory) in
          let same : order_list (task_of f t) order (state_of f x.answer.state (lent_of a x.memory) (lent_of b x.shared)) ≡ order_list (task_of f t) order (whole_of f x) = ap₂ (λ (u v : List ℕ). order_list (task_of f t) order (state_of f x.answer.state u v)) m n in
          rw e (front_of list (order_list (task_of f t) order (state_of f x.answer.state (lent_of a x.memory) (lent_of b x.shared)))
          (omega (arith, few-listed (task_of f t) order (state_of f x.answer.state (lent_of a x.memory) (lent_of b x.shared)), leb-true (length order) (length list) known.listed)) ∙ same)
      go false e = rw (e, ne_eqb _ _ (eqb-false _ _ e)) refl

  call-wrote : (c : Call) → written_by f t c x ≡ order_list (task_of f t) (counts_as f t c x) (whole_of f x)
  call-wrote (stepping a b k) = refl
  call-wrote (running a b order list) = run-wrote a b order list

pub list-append : (t : Task) (js ks : List ℕ) (s : State) → order_list t (js ++ ks) s ≡ order_list t js s ++ order_list t ks (run t js s)
list-append t js ks s = ap (map encoded) (takings-append t js ks s) ∙ map-append encoded (takings t js s) (takings t ks (run t js s))

calls-wrote : (f t : List ℕ) → AcceptedSet f t → (cs : List Call) (x : Left) → Lendable f t x → written_of f t cs x ≡ order_list (task_of f t) (steps_of f t cs x) (whole_of f x)
calls-wrote f t ok [] x w = refl
calls-wrote f t ok (c ∷ cs) x w =
    let y = call-counted f t ok x w c in
    ap₂ (λ (l m : List ℕ). l ++ m) (call-wrote f t ok x w c)
    (calls-wrote f t ok cs (leaves f t c x) y.lendable ∙ ap (order_list (task_of f t) (steps_of f t cs (leaves f t c x))) y.whole)
    ∙ sym (list-append (task_of f t) (counts_as f t c x) (steps_of f t cs (leaves f t c x)) (whole_of f x))

-- ---- of lists of calls

accepted-file : (f : List ℕ) (m n : ℕ) → fresh_refusal f m n ≡ 0 → judge f ≡ 0
unfolding fresh_refusal
accepted-file f m n e = (next-zero _ _ e).0

pub calls-rerun : (f t : List ℕ) → ((i : ℕ) → get_or f i 0 < 256) → ((i : ℕ) → get_or t i 0 < 256) → (d sh : List ℕ) → fresh_refusal f (length d) (length sh) ≡ 0 → trace_refusal f t ≡ 0
    → (cs : List Call) (d' sh' : List ℕ) → lent_fits f (length d') (length sh') ≡ true → CallsRerun f t d sh cs d' sh'
calls-rerun f t bytes trace-bytes d sh e sound cs d' sh' fits =
    let ok : AcceptedSet f t = accepted-set f t bytes trace-bytes (accepted-file f (length d) (length sh) e) sound in
    let whole = fresh-whole f t bytes trace-bytes d sh e ok.few in
    let wrote : written_of f t cs (fresh_call f d sh) ≡ order_list (task_of f t) (steps_of f t cs (fresh_call f d sh)) (fresh_of f) =
    calls-wrote f t ok cs (fresh_call f d sh) (fresh-lendable f t bytes trace-bytes d sh e ok) ∙ ap (order_list (task_of f t) (steps_of f t cs (fresh_call f d sh))) whole in
    let steps = (calls-interleaved f t bytes trace-bytes d sh e sound cs).steps in
    let y = call-rerun f t (written_of f t cs (fresh_call f d sh)) d' sh' ok fits in
    record {
      wrote = wrote;
      taken = y.never-refused (steps_of f t cs (fresh_call f d sh)) (sym wrote);
      alike = λ s. y.ends (steps_of f t cs (fresh_call f d sh)) (sym wrote) (subst Settled steps s) ∙ ap unlined (sym steps);
    }
