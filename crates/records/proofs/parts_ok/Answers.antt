-- Core by core.
use mathlib.Core.Path.{sym, ◌∙◌}
use Rattle.records.specs.Records.{parts_ok}
use Rattle.records.proofs.parts_ok.Goals as goal

pub returns-then-not-part_ok : goal.returns-then-not-part_ok
unfolding parts_ok
returns-then-not-part_ok c = rw (sym c.part_ok.ensures ∙ c.if-not-part_ok.true)

pub returns-then-not-part_ok-2 : goal.returns-then-not-part_ok-2
unfolding parts_ok
returns-then-not-part_ok-2 c = rw (sym c.part_ok.ensures ∙ c.if-not-part_ok.false, sym c.part_ok-2.ensures ∙ c.if-not-part_ok-2.true)

pub returns-then-not-part_ok-3 : goal.returns-then-not-part_ok-3
unfolding parts_ok
returns-then-not-part_ok-3 c = rw (
  sym c.part_ok.ensures ∙ c.if-not-part_ok.false,
  sym c.part_ok-2.ensures ∙ c.if-not-part_ok-2.false,
  sym c.part_ok-3.ensures ∙ c.if-not-part_ok-3.true,
)

pub returns : goal.returns
unfolding parts_ok
returns c = rw (
  sym c.part_ok.ensures ∙ c.if-not-part_ok.false,
  sym c.part_ok-2.ensures ∙ c.if-not-part_ok-2.false,
  sym c.part_ok-3.ensures ∙ c.if-not-part_ok-3.false,
) c.part_ok-4.ensures
