-- `instructions::command_of` meets its contract: the code that is lent is that of core k. Assumes nothing.
use mathlib.Core.Path.{refl, ap, ◌∙◌}
use mathlib.Core.List.{List}
use Prim.Native.Nat.{ℕ}
use native.Mathlib.Omega.{arith}
use Rattle.memory.specs.Memory.{byte}
use Rattle.steps.proofs.Given.{code_inside, code_is, start-in}
use Rattle.instructions.proofs.command_of.Goals as goal

pub overflow_add-e : goal.overflow_add-e
overflow_add-e c = record { fits = omega (arith, code_inside c.requires) }

pub slice_bounds-command_at-end : goal.slice_bounds-command_at-end
slice_bounds-command_at-end c = omega (arith, code_inside c.requires)

pub command_at-requires : goal.command_at-requires
command_at-requires c = start-in c.requires _ refl

pub returns : goal.returns
returns c = (c.command_at.ensures.0 ∙ ap (λ (y : List ℕ). byte y c.args.counter) (code_is c.requires _ refl), c.command_at.ensures.1)
