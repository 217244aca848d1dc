-- What the judging of a call answers, and what the inner functions of this crate are given. In order: file and lent memory; the call; a run from the fresh state.
-- Not here: the refusal number of each public call (`Calls`).
use Rattle.std.specs.Prelude.{◌≡◌, Bool, true, List, ℕ, length, Result, Err}
use Rattle.std.specs.Result.{IfOk, IfErr, OnOk}
use Rattle.verdict.specs.Numbers.{no_such_core, bad_lengths}
use Rattle.verdict.specs.Verdict.{both, next, unless}
use Rattle.verdict.specs.Refusals.{number_of}
use Rattle.verdict.specs.declared.Refusal.{Refusal}
use Rattle.protocol.specs.Fresh.{fresh_flags}
use Rattle.records.specs.File.{cores}
use Rattle.code.specs.declared.Profile.{Profile}
use Rattle.taskset.specs.declared.Layout.{Layout}
use Rattle.taskset.specs.Judge.{judge_for, judge}
use Rattle.taskset.specs.Layout.{layout_of}
use Rattle.taskset.specs.Starts.{start_shared, start_buffer}
use Rattle.states.specs.declared.Held.{Held}
use Rattle.states.specs.Preparing.{held_refusal}
use Rattle.states.specs.Tasks.{tasks_of}
use Rattle.runner.specs.Runs.{all_below, Left}
use Rattle.machine.specs.declared.judging.Judgement.{Judgement}
use Rattle.machine.specs.Calls.{lent_fits, table_of, run_call}

-- ---- file and lent memory

unfoldable pub lent_refusal : Profile → List ℕ → ℕ → ℕ → Bool → ℕ
lent_refusal profile f buffer shared room = next (judge_for profile f) (unless (both (lent_fits f buffer shared) room) bad_lengths)

-- an accepted file with its layout, and memories of its sizes
pub record LentTo (f : List ℕ) (layout : Layout) (d sh : List ℕ) : Type 0 where
  pub accepted : judge f ≡ 0
  pub laid : layout ≡ layout_of f
  pub fits : lent_fits f (length d) (length sh) ≡ true

-- the layout is that of an accepted file where nothing is refused
abbrev pub LaidOut : {E : Type 0} → List ℕ → Result Layout E → Type 0
LaidOut f x = IfOk x (λ layout. (judge f ≡ 0) × (layout ≡ layout_of f))

-- ---- the call, after what loading refused

unfoldable pub judged_number : List ℕ → List ℕ → ℕ → Held → List ℕ → ℕ
judged_number f t loaded h order = next loaded (next (held_refusal f t h) (unless (all_below (cores f) order) no_such_core))

pub record JudgedAs {E : Type 0} (gives : Refusal → E → Type 0) (f t : List ℕ) (loaded : Result Layout E) (h : Held) (order : List ℕ) (x : Result Judgement E) : Type 0 where
  -- an error of loading is the call's
  pub handed : IfErr loaded (λ e. x ≡ Err e)
  -- any other is what `gives` makes of the refusal whose number is judged
  pub number : OnOk loaded (IfErr x (λ e. (r : Refusal) × (number_of r ≡ judged_number f t 0 h order) × gives r e))
  pub granted : OnOk loaded (IfOk x (λ j. (0 ≡ judged_number f t 0 h order) × (j.layout ≡ layout_of f) × (j.tasks ≡ tasks_of f t)))

-- ---- a run from the fresh state of an accepted file, in memories of its sizes

unfoldable pub first_run : List ℕ → List ℕ → List ℕ → List ℕ → Left
first_run f t order list = run_call f t (table_of (cores f) fresh_flags) (start_buffer f) (start_shared f) order list
