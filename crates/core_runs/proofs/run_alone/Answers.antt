-- `core_runs::run_alone` meets its contract. The invariant: the instructions so far are steps of core k. Assumes nothing.
use mathlib.Core.Path.{refl}
use native.Mathlib.Omega.{arith}
use Rattle.runner.specs.Running.{reached_at}
use Rattle.runner.proofs.Executing.{steps-alone, executes-none, executes-on, executing-on, executing-count, executing-length, executes-alone, standing-alone, left_less}
use Rattle.core_runs.proofs.run_alone.Goals as goal

pub overflow_cast-order : goal.overflow_cast-order
overflow_cast-order c = omega (arith, c.requires.0.known, c.requires.0.accepted.few)

pub loop-r-init : goal.loop-r-init
loop-r-init c = executes-none

pub run_core-x-requires : goal.run_core-x-requires
run_core-x-requires c = (standing-alone _ (executing-on c.requires.0 c.loop-r.invariant), c.requires.1, steps-alone 256 c.args.k (omega arith), c.loop-r-test.true)

pub loop-r-smaller : goal.loop-r-smaller
loop-r-smaller c = let here = c.loop-r in
    let ran = c.run_core-x in
    let at = c.reached_at-r.ensures in
    let counted = executing-count (executing-on c.requires.0 here.invariant) in
    rw at (left_less here.r (reached_at here.r ran.result) ran.result.step c.loop-r-test.true counted ran.ensures.onward ran.ensures.counted)

pub loop-r-preserved : goal.loop-r-preserved
loop-r-preserved c = let given = c.requires.0 in
    rw c.reached_at-r.ensures (executes-on given.accepted given.known c.loop-r.invariant (executes-alone 256 given.accepted refl c.run_core-x.ensures.carries))

pub shape_of-buffer : goal.shape_of-buffer
shape_of-buffer c = executing-length c.requires.0 c.loop-r.invariant

pub returns : goal.returns
returns c = (c.loop-r-test.false, c.loop-r.invariant)
