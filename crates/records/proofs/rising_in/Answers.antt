-- The variables passed that name the core rise, and `end` is the end of the last.
use native.Mathlib.Omega.{arith}
use Rattle.verdict.proofs.Verdict.{absurd-bool}
use Rattle.records.proofs.Order.{risen-none, risen-end}
use Rattle.records.proofs.rising_in.Goals as goal

pub loop-i-init : goal.loop-i-init
loop-i-init c = risen-none _ _ _

pub is_named-requires : goal.is_named-requires
is_named-requires c = (omega (arith, c.record_place-p.ensures.0, c.loop-i-test.true, c.requires.0), c.requires.1)

pub local_place-local-requires : goal.local_place-local-requires
local_place-local-requires c = (omega (arith, c.record_place-p.ensures.0, c.loop-i-test.true, c.requires.0), c.requires.1)

pub returns-then-local-end : goal.returns-then-local-end
returns-then-local-end c = λ e. absurd-bool e

pub width-requires : goal.width-requires
width-requires c = omega (arith, c.record_place-p.ensures.0, c.loop-i-test.true, c.requires.0)

pub returns : goal.returns
returns c = λ _. risen-end _ _ _ _ _ _ c.loop-i.invariant c.loop-i-test.false
