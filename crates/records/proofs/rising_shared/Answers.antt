-- The variables passed rise, and `end` is the end of the last.
use native.Mathlib.Omega.{arith}
use Rattle.records.proofs.Order.{risen-none, risen-end, shared-more}
use Rattle.records.proofs.rising_shared.Goals as goal

pub loop-i-init : goal.loop-i-init
loop-i-init c = risen-none _ _ _

pub shared_place-place-requires : goal.shared_place-place-requires
shared_place-place-requires c = omega (arith, c.record_place-p.ensures.0, c.loop-i-test.true, c.requires)

pub width-requires : goal.width-requires
width-requires c = omega (arith, c.record_place-p.ensures.0, c.loop-i-test.true, c.requires)

pub loop-i-preserved : goal.loop-i-preserved
loop-i-preserved c = shared-more _ _ _ _ c.record_place-p.ensures.0 c.loop-i.invariant _ _ c.shared_place-place.ensures c.width.ensures (omega arith)

pub returns : goal.returns
returns c = λ _. risen-end _ _ _ _ _ _ c.loop-i.invariant c.loop-i-test.false
