-- Each answer is a case of mode 0. Assumes nothing.
use mathlib.Core.Path.{◌∙◌}
use native.Mathlib.Omega.{arith}
use Rattle.steps.proofs.Given.{spent, joined, read-acquired}
use Rattle.steps.proofs.begin_reading.Goals as goal

pub returns-then-c-cycles : goal.returns-then-c-cycles
returns-then-c-cycles c = λ sh. ((λ m u. spent c.requires.0 m c.requires.1 c.if-c-cycles.true sh), tt)

pub returns-then-not-turn : goal.returns-then-not-turn
returns-then-not-turn c = λ sh. ((λ m u. joined c.requires.0 m c.requires.1 (omega (arith, c.if-c-cycles.false)) (u ∙ c.if-not-turn.true) sh), c.if-not-turn.true)

pub take_record-requires : goal.take_record-requires
take_record-requires c = (c.requires.0, omega (arith, c.if-c-cycles.false))

pub returns : goal.returns
returns c = λ sh. (
  (λ m u. read-acquired c.requires.0 m _ _ c.requires.1 (omega (arith, c.if-c-cycles.false)) c.take_record.ensures.0
      c.take_record.ensures.1 (u ∙ c.if-not-turn.false) sh),
  c.if-not-turn.false,
)
