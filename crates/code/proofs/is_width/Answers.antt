-- Each way out rewrites the tests that led to it.
use borrow.Author.Tests.{eq-eqb, ne_eqb}
use Rattle.code.proofs.is_width.Goals as goal

pub returns-then-w-eq1 : goal.returns-then-w-eq1
returns-then-w-eq1 c = rw (eq-eqb _ _ c.if-w-eq1.true)

pub returns-then-w-eq2 : goal.returns-then-w-eq2
returns-then-w-eq2 c = rw (ne_eqb _ _ c.if-w-eq1.false, eq-eqb _ _ c.if-w-eq2.true)

pub returns-then-w-eq4 : goal.returns-then-w-eq4
returns-then-w-eq4 c = rw (ne_eqb _ _ c.if-w-eq1.false, ne_eqb _ _ c.if-w-eq2.false, eq-eqb _ _ c.if-w-eq4.true)

pub returns : goal.returns
returns c = rw (ne_eqb _ _ c.if-w-eq1.false, ne_eqb _ _ c.if-w-eq2.false, ne_eqb _ _ c.if-w-eq4.false)
