-- The rules in their order, in the terms of the task.
use mathlib.Core.Path.{◌≡◌, refl, ◌∙◌}
use mathlib.Core.List.{List}
use mathlib.Core.Bool.{Bool, true, false}
use Prim.Native.Nat.{ℕ, ◌+◌, ◌-◌, ◌≤◌, ◌<◌}
use native.Mathlib.Omega.{arith}
use lib.Dec.{ltb}
use lib.ListN.{length, get_or, take, drop}
use mathlib.Core.Path.{ap}
use mathlib.Core.Bool.{not}
use Rattle.protocol.specs.Registers.{flag_bound}
use Rattle.verdict.specs.Verdict.{both}
use Rattle.memory.specs.Memory.{part}
use Rattle.records.specs.File.{cores}
use Rattle.taskset.specs.Judge.{code_of}
use Rattle.taskset.proofs.Accepted.{core-facts}
use Rattle.states.specs.declared.CoreTask.{CoreTask}
use Rattle.states.specs.declared.Held.{Held}
use Rattle.states.specs.Machine.{no_registers}
use Rattle.states.specs.Set.{AcceptedSet}
use Rattle.states.specs.Tasks.{core_task}
use Rattle.states.specs.Places.{AcceptedCode}
use Rattle.states.specs.Fit.{entry, freed_fit, execution_fit, exchanges_fit, core_fit, fit_at}
use Rattle.states.proofs.Says.{rejects, admits}
use Rattle.fitness.proofs.core_fit.Goals as goal

third-first : (a b c d : Bool) → both c (both a (both b d)) ≡ both a (both b (both c d))
third-first true true c d = refl
third-first true false true d = refl
third-first true false false d = refl
third-first false b true d = refl
third-first false b false d = refl

-- the code that is lent
abbrev lent : List ℕ → CoreTask → List ℕ
lent f task = take (task.layout.code + task.layout.length - task.layout.code) (drop task.layout.code f)

-- TODO
module _ (f t : List ℕ) (k : ℕ) (task : CoreTask) (e : task ≡ core_task f t k) where
  code_is : lent f task ≡ code_of f k
  unfolding core_task part
  code_is =
      let n : task.layout.code + task.layout.length - task.layout.code ≡ task.layout.length = omega arith in
      rw (n, e)

  inside : AcceptedSet f t → k < cores f → task.layout.code + task.layout.length ≤ length f
  unfolding core_task
  inside ok h = rw e (ok.code_inside k h)

  judged : AcceptedSet f t → k < cores f → AcceptedCode (lent f task)
  judged ok h =
      let facts = core-facts f ok.file k h in
      record {
        short = rw code_is (omega (arith, facts.code-length, facts.most-code));
        accepted = rw code_is (ok.code k h);
        start = rw code_is (ok.start k h);
      }

  -- the rules, with what the task has of file and trace
  abbrev freed : Held → Bool
  freed s = freed_fit (get_or s.cores k no_registers) (entry s.places k) (entry s.offsets k)

  abbrev executes : Held → Bool
  executes s = execution_fit (lent f task) task.layout.size task.layout.limit (get_or s.cores k no_registers) (entry s.places k) (entry s.offsets k)

  abbrev exchanges : Held → Bool
  exchanges s = exchanges_fit task.reads task.writes task.count s.semaphore.holder k (get_or s.cores k no_registers)

  abbrev flagged : Held → Bool
  flagged s = ltb (get_or s.cores k no_registers).flags flag_bound

  by-rules : (s : Held) → both (executes s) (both (exchanges s) (both (freed s) (flagged s))) ≡ fit_at f t s k
  unfolding fit_at core_fit core_task
  by-rules s = rw (code_is, e)

  -- in the order of the code
  by-task : (s : Held) → both (freed s) (both (executes s) (both (exchanges s) (flagged s))) ≡ fit_at f t s k
  by-task s = third-first (executes s) (exchanges s) (freed s) (flagged s) ∙ by-rules s

pub overflow_add-to : goal.overflow_add-to
overflow_add-to c = record { fits = omega (arith, inside _ _ _ _ c.requires.2 c.requires.0 c.requires.1) }

pub freed_fit-requires : goal.freed_fit-requires
freed_fit-requires c = omega (arith, c.requires.1, c.requires.0.few)

pub returns-then-not-freed_fit : goal.returns-then-not-freed_fit
returns-then-not-freed_fit c = rejects _ c.freed_fit.ensures (ap not c.if-not-freed_fit.true) ∙ by-task _ _ _ _ c.requires.2 _

pub slice_bounds-execution_fit-end : goal.slice_bounds-execution_fit-end
slice_bounds-execution_fit-end c = omega (arith, inside _ _ _ _ c.requires.2 c.requires.0 c.requires.1)

pub execution_fit-requires : goal.execution_fit-requires
execution_fit-requires c = (judged _ _ _ _ c.requires.2 c.requires.0 c.requires.1, omega (arith, c.requires.1, c.requires.0.few))

pub returns-then-not-execution_fit : goal.returns-then-not-execution_fit
returns-then-not-execution_fit c = admits c.freed_fit.ensures (ap not c.if-not-freed_fit.false) (rejects _ c.execution_fit.ensures (ap not c.if-not-execution_fit.true)) ∙ by-task _ _ _ _ c.requires.2 _

pub exchanges_fit-requires : goal.exchanges_fit-requires
exchanges_fit-requires c = omega (arith, c.requires.1, c.requires.0.few)

pub returns-then-not-exchanges_fit : goal.returns-then-not-exchanges_fit
returns-then-not-exchanges_fit c = admits c.freed_fit.ensures (ap not c.if-not-freed_fit.false)
    (admits c.execution_fit.ensures (ap not c.if-not-execution_fit.false) (rejects _ c.exchanges_fit.ensures (ap not c.if-not-exchanges_fit.true)))
    ∙ by-task _ _ _ _ c.requires.2 _

pub returns : goal.returns
returns c = admits c.freed_fit.ensures (ap not c.if-not-freed_fit.false)
    (admits c.execution_fit.ensures (ap not c.if-not-execution_fit.false) (admits c.exchanges_fit.ensures (ap not c.if-not-exchanges_fit.false) refl))
    ∙ by-task _ _ _ _ c.requires.2 _
