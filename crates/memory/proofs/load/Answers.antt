-- `memory::load` meets its contract. Assumes nothing.
use Rattle.std.proofs.Common.{refl, arith, rules}
use Rattle.memory.specs.Memory.{part}
use Rattle.memory.proofs.Turns.{load-start, load-turn, load-fits, load-done}
use Rattle.memory.proofs.load.Goals as goal

pub loop-b-init : goal.loop-b-init
unfolding part
loop-b-init c = load-start _ _ _ _ c.requires.0 (search rules)

pub overflow_mul-v : goal.overflow_mul-v
overflow_mul-v c = omega (arith, load-fits _ _ _ _ _ _ _ _ c.requires.0 c.requires.1 c.type_inv.d refl c.in-Some.ensures.steps c.loop-b.invariant)

pub overflow_add-v : goal.overflow_add-v
overflow_add-v c = load-fits _ _ _ _ _ _ _ _ c.requires.0 c.requires.1 c.type_inv.d c.from.ensures c.in-Some.ensures.steps c.loop-b.invariant

pub loop-b-preserved : goal.loop-b-preserved
loop-b-preserved c = load-turn _ _ _ _ _ _ _ _ c.requires.0 c.type_inv.d c.from.ensures c.in-Some.ensures.steps c.loop-b.invariant

pub returns : goal.returns
returns c = load-done _ _ _ _ _ c.in-None.ensures.steps.0 c.loop-b.invariant
