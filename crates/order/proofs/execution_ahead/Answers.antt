-- `order::execution_ahead` meets its contract: step i is of core k, so one step is a stretch. Assumes nothing.
use mathlib.Core.Path.{sym}
use native.Mathlib.Omega.{arith}
use Rattle.order.proofs.Stretches.{step_in_lem, all_one}
use Rattle.order.proofs.execution_ahead.Goals as goal

pub overflow_add-i : goal.overflow_add-i
overflow_add-i c = let good = c.well_formed in record { fits = omega (arith, (step_in_lem c.args.order.now c.args.i c.args.k c.requires.0).0) }

pub returns-then-not-stays : goal.returns-then-not-stays
returns-then-not-stays c = let first = step_in_lem c.args.order.now c.args.i c.args.k c.requires.0 in
    record {
      few = omega (arith, c.requires.1);
      within = omega (arith, first.0);
      all = all_one c.args.order.now c.args.k c.args.i (sym first.1);
      some = λ e h. omega arith;
    }

pub stretch-requires : goal.stretch-requires
stretch-requires c = (omega (arith, (step_in_lem c.args.order.now c.args.i c.args.k c.requires.0).0), c.requires.2)
