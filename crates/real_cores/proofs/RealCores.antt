-- What specs/RealCores claims: crate races' theorems, with their hypotheses met by document 01's instructions and their operands, and calls as their steps.
-- In order: what a step touches; what a fault leaves; steps; fit states; calls; calls on a lent core table. Assumes nothing.
use mathlib.Core.Path.{◌≡◌, refl, sym, ◌∙◌, subst}
use mathlib.Core.List.{List}
use Prim.Native.Nat.{ℕ, ◌<◌}
use lib.ListN.{length, get_or}
use Rattle.protocol.specs.State.{State}
use Rattle.protocol.specs.Laws.{Laws}
use Rattle.races.specs.Footprint.{DataFootprintsRight, RaceFree, Swaps}
use Rattle.races.proofs.Footprint.{footprint-right}
use Rattle.races.proofs.RaceFree.{race-free, race-free-held}
use Rattle.races.proofs.Swaps.{steps-commute, swaps-alike}
use Rattle.processor.proofs.Kept.{instruction-laws}
use Rattle.operands.specs.Faults.{FaultsStop}
use Rattle.operands.proofs.Operands.{data-footprints-right}
use Rattle.operands.proofs.Faults.{faults-stop}
use Rattle.taskset.specs.Judge.{code_of}
use Rattle.taskset.specs.Fresh.{fresh_of}
use Rattle.taskset.specs.Trace.{trace_refusal}
use Rattle.taskset.proofs.Accepted.{fresh-of}
use Rattle.semaphore.specs.declared.Semaphore.{Semaphore}
use Rattle.states.specs.Task.{task_of}
use Rattle.states.specs.Fit.{Fit}
use Rattle.machine.specs.Calls.{fresh_refusal, fresh_call}
use Rattle.calls.specs.Calling.{Call, steps_of}
use Rattle.calls.proofs.Calling.{calls-interleaved}
use Rattle.snapshot.specs.declared.CoreRecord.{CoreRecord}
use Rattle.rikzord.specs.Lent.{fresh_lent}
use Rattle.lent_calls.specs.Calling.{LentCall, lent_steps_of}
use Rattle.lent_calls.proofs.Calling.{lent-interleaved}
use Rattle.real_cores.specs.RealCores.{operands_in, StepFootprint, MachineRaceFree, StepsCommute, StepsAlike, CallsRaceFree, CallsAlike, LentRaceFree, LentAlike}

-- ---- what a step touches

laws : (f t : List ℕ) → Laws (task_of f t)
unfolding task_of
laws f t = instruction-laws (task_of f t) (code_of f) refl

operands-right : (f t : List ℕ) → DataFootprintsRight (task_of f t) (operands_in f)
unfolding task_of
operands-right f t = data-footprints-right (task_of f t) (code_of f) refl

pub footprint-right-machine : (f t : List ℕ) (k : ℕ) (s : State) → StepFootprint f t k s
footprint-right-machine f t k s = footprint-right (task_of f t) (laws f t) (operands_in f) (operands-right f t) k s

-- ---- what a fault leaves: of every file and trace, document 01's order of faults

pub faults-stop-machine : (f t : List ℕ) → FaultsStop (task_of f t) (code_of f)
unfolding task_of
faults-stop-machine f t = faults-stop (task_of f t) (code_of f) refl

-- ---- steps

pub race-free-machine : (f t ks : List ℕ) → MachineRaceFree f t ks
race-free-machine f t ks = race-free (task_of f t) (laws f t) (operands_in f) (fresh_of f) (fresh-of f) ks

pub steps-commute-machine : (f t ks : List ℕ) (j k : ℕ) → StepsCommute f t ks j k
steps-commute-machine f t ks j k d = steps-commute (task_of f t) (laws f t) (operands_in f) (operands-right f t) (fresh_of f) (fresh-of f) ks j k d

pub swaps-alike-machine : (f t js ks : List ℕ) → StepsAlike f t js ks
swaps-alike-machine f t js ks w = swaps-alike (task_of f t) (laws f t) (operands_in f) (operands-right f t) (fresh_of f) (fresh-of f) js ks w

-- ---- fit states: whatever state a caller holds or lends that is not refused, the next steps of its cores do not race

pub fit-race-free : (f t : List ℕ) (s : State) → Fit f t s → RaceFree (task_of f t) (operands_in f) s
fit-race-free f t s fit = race-free-held (task_of f t) (operands_in f) s fit.held

-- ---- calls. That f and t are bytes is known of the types

module _ (f t : List ℕ) (bytes : (i : ℕ) → get_or f i 0 < 256) (trace-bytes : (i : ℕ) → get_or t i 0 < 256) (sound : trace_refusal f t ≡ 0) where
  module _ (d sh : List ℕ) (e : fresh_refusal f (length d) (length sh) ≡ 0) where
    pub calls-race-free : (cs : List Call) → CallsRaceFree f t d sh cs
    calls-race-free cs =
        let c = calls-interleaved f t bytes trace-bytes d sh e sound cs in
        record { steps = c.steps; race-free = subst (RaceFree (task_of f t) (operands_in f)) (sym c.steps) (race-free-machine f t (steps_of f t cs (fresh_call f d sh))) }

    pub calls-alike : (bs cs : List Call) → Swaps (task_of f t) (operands_in f) (fresh_of f) (steps_of f t bs (fresh_call f d sh)) (steps_of f t cs (fresh_call f d sh)) → CallsAlike f t d sh bs cs
    calls-alike bs cs w =
        let a = swaps-alike-machine f t _ _ w in
        record {
          whole = (calls-interleaved f t bytes trace-bytes d sh e sound bs).steps ∙ a.end ∙ sym (calls-interleaved f t bytes trace-bytes d sh e sound cs).steps;
          takings-same = a.takings-same;
        }

  -- ---- calls on a lent core table

  module _ (ys : List CoreRecord) (p : Semaphore) (d sh : List ℕ) (e : (fresh_lent f ys p d sh).refusal ≡ 0) where
    pub lent-race-free : (cs : List LentCall) → LentRaceFree f t ys p d sh cs
    lent-race-free cs =
        let c = lent-interleaved f t bytes trace-bytes ys p d sh e sound cs in
        record { steps = c.steps; race-free = subst (RaceFree (task_of f t) (operands_in f)) (sym c.steps) (race-free-machine f t (lent_steps_of f t cs (fresh_lent f ys p d sh))) }

    pub lent_alike : (bs cs : List LentCall) → Swaps (task_of f t) (operands_in f) (fresh_of f) (lent_steps_of f t bs (fresh_lent f ys p d sh)) (lent_steps_of f t cs (fresh_lent f ys p d sh))
        → LentAlike f t ys p d sh bs cs
    lent_alike bs cs w =
        let a = swaps-alike-machine f t _ _ w in
        record {
          whole = (lent-interleaved f t bytes trace-bytes ys p d sh e sound bs).steps ∙ a.end ∙ sym (lent-interleaved f t bytes trace-bytes ys p d sh e sound cs).steps;
          takings-same = a.takings-same;
        }
