-- `order::past_waiting` meets its contract. The invariant: the steps passed are of cores that wait. Assumes nothing.
use lib.ListN.{length}
use mathlib.Core.Path.{◌≡◌, sym, ap, ◌∙◌}
use native.Mathlib.Omega.{arith}
use Rattle.semaphore.specs.Line.{semaphore_of, waits_at}
use Rattle.order.proofs.Stretches.{waits-none, waits-on}
use Rattle.order.proofs.past_waiting.Goals as goal

pub loop-j-init : goal.loop-j-init
loop-j-init c = (omega arith, c.requires.0, waits-none c.args.order.now (semaphore_of c.args.line.semaphore) c.args.i)

pub core_at-k-requires : goal.core_at-k-requires
core_at-k-requires c = (c.loop-j-test.true, c.requires.1 _ c.loop-j-test.true, c.requires.2)

pub waits-requires : goal.waits-requires
waits-requires c = (c.requires.3, c.core_at-k.ensures.2)

pub returns-then-not-waits : goal.returns-then-not-waits
returns-then-not-waits c = c.loop-j.invariant

pub loop-j-preserved : goal.loop-j-preserved
loop-j-preserved c = let given = c.args in
    let here = c.loop-j.invariant in (
      omega (arith, here.0),
      omega (arith, c.loop-j-test.true),
      waits-on given.order.now (semaphore_of given.line.semaphore) here.0 here.2
          (ap (waits_at (semaphore_of given.line.semaphore)) (sym c.core_at-k.ensures.0) ∙ sym c.waits.ensures ∙ c.if-not-waits.false),
    )

pub returns : goal.returns
returns c =
    let all : c.loop-j.j ≡ length c.args.order.now = omega arith in
    let here = c.loop-j.invariant in
    (omega (arith, here.0), omega arith, rw (← all) here.2)
