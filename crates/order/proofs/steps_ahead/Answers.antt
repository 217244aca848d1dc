-- `order::steps_ahead` meets its contract: as many steps as leave a byte, of those that are of core k. Assumes nothing.
use native.Mathlib.Omega.{arith}
use Rattle.order.proofs.Stretches.{all_none}
use Rattle.order.proofs.Eight.{ahead-less}
use Rattle.order.proofs.steps_ahead.Goals as goal

pub returns-then-not-stays : goal.returns-then-not-stays
returns-then-not-stays c = ((λ h. absurd (omega arith)), omega (arith, c.requires.0), all_none c.args.order.now c.args.k c.args.i)

pub stretch-requires : goal.stretch-requires
stretch-requires c = let given = c.requires in (omega (arith, given.0), given.1)

pub returns : goal.returns
returns c = let s = c.stretch.ensures in
    ((λ h. ahead-less c.args.c c.args.r _ _ s.few (c.bytes_ahead.ensures (omega (arith, s.few)))), s.within, s.all)
