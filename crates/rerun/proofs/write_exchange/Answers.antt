-- `rerun::write_exchange` meets its contract: the stretch that is lent is the data of core k. Assumes nothing.
use mathlib.Core.Path.{refl, ap, ◌∙◌}
use mathlib.Core.List.{List}
use Prim.Native.Nat.{ℕ}
use native.Mathlib.Omega.{arith}
use lib.ListN.{length}
use Rattle.protocol.specs.Step.{copy}
use Rattle.protocol.specs.Variables.{writes_of}
use Rattle.taskset.specs.Task.{variables_of}
use Rattle.steps.proofs.Given.{stretch-inside, stretch-is}
use Rattle.rerun.proofs.write_exchange.Goals as goal

pub overflow_add-e : goal.overflow_add-e
overflow_add-e c = record { fits = omega (arith, stretch-inside _ c.requires.0.ready c.requires.1) }

pub slice_bounds-publish_all-end : goal.slice_bounds-publish_all-end
slice_bounds-publish_all-end c = omega (arith, stretch-inside _ c.requires.0.ready c.requires.1)

pub publish_all-requires : goal.publish_all-requires
publish_all-requires c = (
  c.requires.0.ready.accepted.laid,
  c.requires.0.ready.known,
  c.requires.0.from,
  c.requires.0.upto,
  ap length (stretch-is _ c.requires.0.ready c.requires.1 _ refl) ∙ c.requires.0.ready.fit.size,
  c.requires.0.shared,
)

pub returns : goal.returns
returns c = let a = c.args in
    c.publish_all.ensures ∙ ap (λ (l : List ℕ). copy (writes_of (variables_of a.file.now) a.k) l a.shared.now)
    (stretch-is _ c.requires.0.ready c.requires.1 _ refl)
