-- The stretch that is lent is the data of core k, and the others stay. Assumes nothing.
use mathlib.Core.Path.{refl, subst⁻¹}
use native.Mathlib.Omega.{arith}
use Rattle.steps.specs.Moving.{StepGiven}
use Rattle.steps.proofs.Given.{stretch-inside, stretch-is, steps-in}
use Rattle.steps.proofs.exchange_of.Goals as goal

pub overflow_add-e : goal.overflow_add-e
overflow_add-e c = record { fits = omega (arith, stretch-inside _ c.requires.0.ready c.requires.0.buffer) }

pub slice_bounds-exchange_in-end : goal.slice_bounds-exchange_in-end
slice_bounds-exchange_in-end c = omega (arith, stretch-inside _ c.requires.0.ready c.requires.0.buffer)

pub exchange_in-requires : goal.exchange_in-requires
exchange_in-requires c = (
  subst⁻¹ (StepGiven _ _ _ _ _) (stretch-is _ c.requires.0.ready c.requires.0.buffer _ refl) c.requires.0.ready,
  c.requires.1,
  c.requires.0.shared,
  c.requires.0.aimed,
  c.requires.0.upto,
)

pub returns : goal.returns
returns c = (
  (λ h z. steps-in _ c.requires.0.ready c.requires.0.buffer _ refl h _ _ _ _ (c.exchange_in.ensures.0 h z)
      c.exchange_in.auto.d),
  c.exchange_in.ensures.1,
)
