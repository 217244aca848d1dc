-- `rerun::read_exchange` meets its contract: the stretch that is lent is the data of core k, and the others stay. Assumes nothing.
use mathlib.Core.Path.{refl, ap, ◌∙◌, subst⁻¹}
use mathlib.Core.List.{List}
use Prim.Native.Nat.{ℕ}
use native.Mathlib.Omega.{arith}
use lib.ListN.{set}
use Rattle.memory.specs.Memory.{split}
use Rattle.taskset.specs.Task.{sizes_of}
use Rattle.steps.specs.Moving.{StepGiven}
use Rattle.steps.proofs.Given.{stretch-inside, stretch-is, stretch-kept}
use Rattle.rerun.specs.Rerunning.{brought_to}
use Rattle.rerun.proofs.read_exchange.Goals as goal

pub overflow_add-e : goal.overflow_add-e
overflow_add-e c = record { fits = omega (arith, stretch-inside _ c.requires.0.ready c.requires.2) }

pub slice_bounds-read_data-end : goal.slice_bounds-read_data-end
slice_bounds-read_data-end c = omega (arith, stretch-inside _ c.requires.0.ready c.requires.2)

pub read_data-requires : goal.read_data-requires
read_data-requires c = let given = c.requires in (
  record {
    ready = subst⁻¹ (StepGiven _ _ _ _ _) (stretch-is _ given.0.ready given.2 _ refl) given.0.ready;
    from = given.0.from;
    upto = given.0.upto;
    shared = given.0.shared;
  },
  given.1,
)

pub returns : goal.returns
returns c = let a = c.args in (
  c.read_data.ensures.0,
  stretch-kept _ c.requires.0.ready c.requires.2 _ refl _ c.read_data.auto.d
      ∙ ap (λ (l : List ℕ). set (split (sizes_of a.file.now) a.buffer.now) a.k l)
      (c.read_data.ensures.1 ∙ ap (λ (l : List ℕ). brought_to a.file.now a.trace.now a.k a.r a.shared.now l)
      (stretch-is _ c.requires.0.ready c.requires.2 _ refl)),
)
