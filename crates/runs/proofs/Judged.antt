-- What a run knows where nothing is refused: an accepted set, a fit state, room for the takings. Assumes nothing.
use mathlib.Core.Path.{◌≡◌, sym, ap}
use mathlib.Core.List.{List}
use Prim.Native.Nat.{ℕ, ◌+◌, ◌*◌, ◌≤◌, ◌<◌}
use native.Mathlib.Omega.{arith}
use borrow.Author.Tests.{leb-true}
use lib.Dec.{leb}
use lib.ListN.{length, get_or}
use Rattle.exchange.specs.declared.Cursor.{Cursor}
use Rattle.exchange.proofs.Records.{place_of}
use Rattle.records.specs.File.{cores, variables, record_place}
use Rattle.taskset.specs.declared.Layout.{Layout}
use Rattle.taskset.specs.Layout.{layout_of}
use Rattle.taskset.proofs.Exact.{keeps-rules}
use Rattle.states.specs.declared.Held.{Held}
use Rattle.states.specs.declared.CoreTask.{CoreTask}
use Rattle.states.specs.Set.{AcceptedSet}
use Rattle.states.specs.Fit.{Fit}
use Rattle.states.specs.Machine.{state_of}
use Rattle.states.specs.Tasks.{tasks_of}
use Rattle.states.proofs.Accepted.{accepted-set}
use Rattle.states.proofs.Exactly.{fit-accepted}
use Rattle.states.proofs.Tasks.{tasks-at}
use Rattle.runner.specs.Runs.{all_below}
use Rattle.runner.specs.Going.{RunGiven}
use Rattle.runs.specs.Aiming.{AimGiven, AimedAt}
use Rattle.machine.specs.Calls.{run_refusal}
use Rattle.machine.proofs.Calls.{Granted, granted}

module _ (f t : List ℕ) (h : Held) (d sh order list : List ℕ) (e : run_refusal f t h d sh order list ≡ 0) (l : Layout) (laid : l ≡ layout_of f) where
  known : Granted f t h (length d) (length sh) (leb (length order) (length list)) (all_below (cores f) order)
  unfolding run_refusal
  known = granted f t h _ _ _ _ e

  -- the variables' records
  pub few-variables : l.variables ≤ 64
  few-variables = rw laid (keeps-rules f known.accepted).most-variables

  pub near_first : l.first ≤ 100
  near_first = rw laid (omega (arith, (keeps-rules f known.accepted).most-cores))

  first-is : l.first ≡ record_place f 0
  first-is = ap (λ (y : Layout). y.first) laid

  end_is : l.first + 12 * l.variables ≡ record_place f (variables f)
  end_is = rw laid (sym (place_of f (variables f)))

  module _ (bytes : (i : ℕ) → get_or f i 0 < 256) (trace-bytes : (i : ℕ) → get_or t i 0 < 256) (places : length h.places ≡ 64) (offsets : length h.offsets ≡ 64) where
    set-of : AcceptedSet f t
    set-of = accepted-set f t bytes trace-bytes known.accepted known.sound

    fit_of : Fit f t (state_of f h d sh)
    fit_of = (fit-accepted f t set-of h d sh record { memory = known.memory; shared = known.shared-memory; places = places; offsets = offsets } known.state).1

    pub aim-given : AimGiven f t l.first (l.first + 12 * l.variables) h d sh
    aim-given = record { accepted = set-of; from = first-is; upto = end_is; fit = fit_of }

    pub run-given : (tasks : List CoreTask) → tasks ≡ tasks_of f t → (aim : Cursor) → AimedAt f h aim
        → RunGiven f t tasks l.first (l.first + 12 * l.variables) order h aim d sh list
    run-given tasks a aim b = record {
      accepted = set-of;
      tasked = tasks-at f t set-of tasks a;
      from = first-is;
      upto = end_is;
      below = known.below;
      room = leb-true _ _ known.listed;
      buffer = known.memory;
      fit = fit_of;
      aimed = b;
    }
