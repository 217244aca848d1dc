-- Document 02, 2.9, of the real machine: crate protocol's theorem, with its hypotheses met by acceptance and by document 01's instructions.
-- In order: the theorem; the conditions as tests; whole cycles as steps; of calls. Not here: the test of a file's lines (`Check`). Assumes nothing.
use mathlib.Core.Path.{◌≡◌, refl, sym, ap, ◌∙◌, subst}
use mathlib.Core.Bool.{Bool, true, false}
use mathlib.Core.List.{List, [], ◌∷◌}
use Prim.Native.Nat.{ℕ, ◌≤◌, ◌<◌}
use lib.Dec.{T, ltb}
use lib.ListN.{length, get_or, get_or-eq_default}
use borrow.Author.Tests.{eq-eqb, ltb-true, ltb-false}
use Rattle.verdict.specs.Verdict.{pick}
use Rattle.verdict.proofs.Verdict.{next-zero, pick_true, by-pick}
use Rattle.protocol.specs.State.{Core, State, core, mode, absent}
use Rattle.protocol.specs.Step.{step, step_in, run}
use Rattle.protocol.specs.Laws.{Between}
use Rattle.protocol.specs.Cycles.{reads_from, line_between, is_one_way, no_ring}
use Rattle.protocol.proofs.Cycles.{whole-cycles}
use Rattle.protocol.proofs.Tests.{low_reads, low-lines, one_way, no-ring}
use Rattle.processor.proofs.Kept.{instruction-laws}
use Rattle.records.specs.File.{cores}
use Rattle.taskset.specs.Judge.{code_of, judge}
use Rattle.taskset.specs.Task.{variables_of}
use Rattle.taskset.specs.Fresh.{fresh_of}
use Rattle.taskset.specs.Trace.{trace_refusal}
use Rattle.taskset.proofs.Accepted.{variables-accepted, fresh-of}
use Rattle.states.specs.Task.{task_of}
use Rattle.states.specs.Set.{AcceptedSet}
use Rattle.states.specs.Fit.{Fit}
use Rattle.states.proofs.Accepted.{accepted-set}
use Rattle.runner.specs.Runs.{Left}
use Rattle.machine.specs.Calls.{fresh_refusal, fresh_call}
use Rattle.calls.specs.Calling.{entire, Call, stepping, leaves, step_calls, whole_of, counts_as, steps_of}
use Rattle.calls.proofs.Calling.{Lendable, step-granted, step-counted, fresh-whole, fresh-lendable, calls-interleaved}
use Rattle.cycles.specs.Serial.{Ringless, MachineSerial, turns_of, StepByStep, CallsSerial}
use Rattle.cycles.proofs.Turns.{turns, turns-end}

pub serial-machine : (f t : List ℕ) → judge f ≡ 0 → Ringless f → (ks : List ℕ) → Between (run (task_of f t) ks (fresh_of f)) → MachineSerial f t ks
unfolding task_of
serial-machine f t accepted lines ks ends =
    whole-cycles (task_of f t) (variables_of f) (fresh_of f) refl refl (instruction-laws (task_of f t) (code_of f) refl) (fresh-of f)
    (variables-accepted f accepted) lines.one_way lines.no-ring ks ends

-- the conditions on the lines of at most four cores, by two tests
pub by_tests : (f : List ℕ) → T (is_one_way (reads_from (variables_of f))) → T (no_ring (line_between (variables_of f))) → Ringless f
by_tests f a b = record {
  one_way = one_way (reads_from (variables_of f)) (low_reads (variables_of f)) a;
  no-ring = no-ring (line_between (variables_of f)) (low-lines (variables_of f)) b;
}

-- ---- whole cycles as steps

pub step-by-step : (f t ks : List ℕ) (x : MachineSerial f t ks) → StepByStep f t ks x
unfolding task_of
step-by-step f t ks x =
    let y = turns (task_of f t) (instruction-laws (task_of f t) (code_of f) refl) x.order (fresh_of f) (fresh-of f) x.real in
    let e = turns-end (task_of f t) x.order y.0 (fresh_of f) refl y.1 in
    record { lengths = y.0; turns = y.1; same = ap (λ (s : State). s.plant) e ∙ sym x.ends }

-- ---- of calls

-- a core number from n on: the step changes nothing
step-none : (f t : List ℕ) (s : State) → Fit f t s → (k : ℕ) → cores f ≤ k → step (task_of f t) k s ≡ s
unfolding step pick
step-none f t s fit k l =
    let e : core s.plant k ≡ absent = get_or-eq_default s.plant.cores absent (subst (λ (n : ℕ). n ≤ k) (sym fit.table) l) in
    ap (λ (c : Core). step_in (mode c) (task_of f t) k c s) e

-- a step call with the memories whole is a step, one that is refused for its core too
one-step : (f t : List ℕ) → AcceptedSet f t → (x : Left) → Lendable f t x → (k : ℕ)
    → run (task_of f t) (counts_as f t (stepping entire entire k) x) (whole_of f x) ≡ step (task_of f t) k (whole_of f x)
one-step f t ok x w k = go (ltb k (cores f)) refl
  where
    is-step : List ℕ → Type 0
    is-step ks = run (task_of f t) ks (whole_of f x) ≡ step (task_of f t) k (whole_of f x)

    go : (b : Bool) → ltb k (cores f) ≡ b → is-step (counts_as f t (stepping entire entire k) x)
    go true e =
        let granted = step-granted f t ok x w k (ltb-true k (cores f) e) in
        ap (λ (ks : List ℕ). run (task_of f t) ks (whole_of f x)) (pick_true _ (k ∷ []) [] (eq-eqb _ _ (ap (λ (y : Left). y.answer.refusal) granted)))
    go false e = by-pick is-step _ (k ∷ []) [] (λ _. refl) (λ _. sym (step-none f t (whole_of f x) w.fit k (ltb-false k (cores f) e)))

step-calls : (f t : List ℕ) → AcceptedSet f t → (ks : List ℕ) (x : Left) → Lendable f t x → whole_of f (step_calls f t ks x) ≡ run (task_of f t) ks (whole_of f x)
step-calls f t ok [] x w = refl
step-calls f t ok (k ∷ ks) x w =
    let y = step-counted f t ok x w entire entire k in
    step-calls f t ok ks (leaves f t (stepping entire entire k) x) y.lendable ∙ ap (run (task_of f t) ks) (y.whole ∙ one-step f t ok x w k)

-- That f and t are bytes is known of the types
pub calls-serial : (f t : List ℕ) → ((i : ℕ) → get_or f i 0 < 256) → ((i : ℕ) → get_or t i 0 < 256) → (d sh : List ℕ) → fresh_refusal f (length d) (length sh) ≡ 0
    → trace_refusal f t ≡ 0 → Ringless f → (cs : List Call) → CallsSerial f t d sh cs
unfolding fresh_refusal
calls-serial f t bytes trace-bytes d sh e sound lines cs =
    let counted = calls-interleaved f t bytes trace-bytes d sh e sound cs in
    let ks = steps_of f t cs (fresh_call f d sh) in
    let accepted : judge f ≡ 0 = (next-zero _ _ e).0 in
    let ok : AcceptedSet f t = accepted-set f t bytes trace-bytes accepted sound in
    record {
      steps = counted.steps;
      serial = λ ends. serial-machine f t accepted lines ks (subst Between counted.steps ends);
      in-turn = λ x y.
          ap (λ (s : State). s.plant)
          (step-calls f t ok (turns_of x.order y.lengths) (fresh_call f d sh) (fresh-lendable f t bytes trace-bytes d sh e ok)
          ∙ ap (run (task_of f t) (turns_of x.order y.lengths)) (fresh-whole f t bytes trace-bytes d sh e ok.few))
          ∙ y.same
          ∙ sym (ap (λ (s : State). s.plant) counted.steps);
    }
