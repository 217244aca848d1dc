-- The ranges in the order of the definition; each way out rewrites the tests that led to it.
use mathlib.Core.Path.{sym, ◌∙◌}
use borrow.Author.Tests.{lt-leb, le-leb, eq-eqb, ne_eqb}
use Rattle.verdict.specs.Verdict.{pick}
use Rattle.values.specs.Types.{takes}
use Rattle.code.proofs.takes_type.Goals as goal

pub returns-then-inside : goal.returns-then-inside
unfolding takes pick
returns-then-inside c = rw (sym c.inside.ensures, c.if-inside.true, c.inside-then-inside.ensures)

pub returns-then-inside-2 : goal.returns-then-inside-2
unfolding takes pick
returns-then-inside-2 c = rw (sym c.inside.ensures, c.if-inside.false, sym c.inside-2.ensures, c.if-inside-2.true, c.inside-then-inside-2.ensures)

pub returns-then-code-eq20 : goal.returns-then-code-eq20
unfolding takes pick
returns-then-code-eq20 c = rw (sym c.inside.ensures, c.if-inside.false, sym c.inside-2.ensures, c.if-inside-2.false, eq-eqb _ _ c.if-code-eq20.true, c.inside-then-code-eq20.ensures)

pub returns-then-inside-3 : goal.returns-then-inside-3
unfolding takes pick
returns-then-inside-3 c = rw (sym c.inside.ensures ∙ c.if-inside.false, sym c.inside-2.ensures ∙ c.if-inside-2.false, ne_eqb _ _ c.if-code-eq20.false, sym c.inside-3.ensures, c.if-inside-3.true, le-leb _ _ c.if-t-gt8.false)

pub returns-then-not-inside : goal.returns-then-not-inside
unfolding takes pick
returns-then-not-inside c = rw (sym c.inside.ensures ∙ c.if-inside.false, sym c.inside-2.ensures ∙ c.if-inside-2.false, ne_eqb _ _ c.if-code-eq20.false, sym c.inside-3.ensures ∙ c.if-inside-3.false, sym c.inside-4.ensures, c.if-inside-4.true, sym c.inside-then-inside-4.ensures ∙ c.if-not-inside.true)

pub returns-then-inside-4 : goal.returns-then-inside-4
unfolding takes pick
returns-then-inside-4 c = rw (sym c.inside.ensures ∙ c.if-inside.false, sym c.inside-2.ensures ∙ c.if-inside-2.false, ne_eqb _ _ c.if-code-eq20.false, sym c.inside-3.ensures ∙ c.if-inside-3.false, sym c.inside-4.ensures, c.if-inside-4.true, sym c.inside-then-inside-4.ensures ∙ c.if-not-inside.false)

pub returns-then-inside-5 : goal.returns-then-inside-5
unfolding takes pick
returns-then-inside-5 c = rw (sym c.inside.ensures ∙ c.if-inside.false, sym c.inside-2.ensures ∙ c.if-inside-2.false, ne_eqb _ _ c.if-code-eq20.false, sym c.inside-3.ensures ∙ c.if-inside-3.false, sym c.inside-4.ensures, c.if-inside-4.false, sym c.inside-5.ensures, c.if-inside-5.true)

pub returns : goal.returns
unfolding takes pick
returns c = rw (sym c.inside.ensures ∙ c.if-inside.false, sym c.inside-2.ensures ∙ c.if-inside-2.false, ne_eqb _ _ c.if-code-eq20.false, sym c.inside-3.ensures ∙ c.if-inside-3.false, sym c.inside-4.ensures, c.if-inside-4.false, sym c.inside-5.ensures, c.if-inside-5.false)

pub returns-then-t-gt8 : goal.returns-then-t-gt8
unfolding takes pick
returns-then-t-gt8 c = rw (sym c.inside.ensures ∙ c.if-inside.false, sym c.inside-2.ensures ∙ c.if-inside-2.false, ne_eqb _ _ c.if-code-eq20.false, sym c.inside-3.ensures, c.if-inside-3.true, lt-leb _ _ c.if-t-gt8.true)
