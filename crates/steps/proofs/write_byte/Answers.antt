-- Each answer is a case of mode 4: no byte is left, the last one, or one of several. Assumes nothing.
use native.Mathlib.Omega.{arith}
use Rattle.steps.proofs.Given.{core-few, writes-left, write-none, write-last, write-more}
use Rattle.steps.proofs.write_byte.Goals as goal

pub returns-then-c-x : goal.returns-then-c-x
returns-then-c-x c = λ b. ((λ h z. write-none c.requires.0 _ h c.requires.1 c.if-c-x.true), tt)

pub publish-requires : goal.publish-requires
publish-requires c = (
  c.requires.0.accepted.laid,
  c.requires.0.known,
  c.requires.3,
  writes-left c.requires.0 c.if-c-x.false,
  c.requires.0.fit.size,
  c.requires.2,
)

pub returns-then-c-x-2 : goal.returns-then-c-x-2
returns-then-c-x-2 c = λ b. ((λ h z. write-last c.requires.0 _ h _ c.requires.1 c.if-c-x-2.true c.publish.ensures), tt)

pub onward-requires : goal.onward-requires
onward-requires c = (c.requires.0.accepted.laid, c.requires.4, omega (arith, core-few c.requires.0), c.requires.3, writes-left c.requires.0 c.if-c-x.false)

pub returns : goal.returns
returns c = λ b. (
  (λ h z. write-more c.requires.0 _ h _ c.requires.1 c.if-c-x-2.false c.publish.ensures),
  (c.requires.1, c.onward.ensures),
)
