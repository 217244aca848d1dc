-- `cycles::closed` meets its contract: the rings are tried in turn. Assumes nothing.
use mathlib.Core.Path.{sym, ◌∙◌}
use Rattle.verdict.proofs.Truth.{either-skip, either-stop}
use Rattle.cycles.proofs.closed.Goals as goal

pub returns-then-three : goal.returns-then-three
returns-then-three c = either-stop _ (sym c.three.ensures ∙ c.if-three.true)

pub returns-then-three-2 : goal.returns-then-three-2
returns-then-three-2 c = either-skip (sym c.three.ensures ∙ c.if-three.false) (either-stop _ (sym c.three-2.ensures ∙ c.if-three-2.true))

pub returns-then-three-3 : goal.returns-then-three-3
returns-then-three-3 c = either-skip (sym c.three.ensures ∙ c.if-three.false)
    (either-skip (sym c.three-2.ensures ∙ c.if-three-2.false) (either-stop _ (sym c.three-3.ensures ∙ c.if-three-3.true)))

pub returns-then-three-4 : goal.returns-then-three-4
returns-then-three-4 c = either-skip (sym c.three.ensures ∙ c.if-three.false)
    (either-skip (sym c.three-2.ensures ∙ c.if-three-2.false)
    (either-skip (sym c.three-3.ensures ∙ c.if-three-3.false)
    (either-stop _ (sym c.three-4.ensures ∙ c.if-three-4.true))))

pub returns-then-four : goal.returns-then-four
returns-then-four c = either-skip (sym c.three.ensures ∙ c.if-three.false)
    (either-skip (sym c.three-2.ensures ∙ c.if-three-2.false)
    (either-skip (sym c.three-3.ensures ∙ c.if-three-3.false)
    (either-skip (sym c.three-4.ensures ∙ c.if-three-4.false)
    (either-stop _ (sym c.four.ensures ∙ c.if-four.true)))))

pub returns-then-four-2 : goal.returns-then-four-2
returns-then-four-2 c = either-skip (sym c.three.ensures ∙ c.if-three.false)
    (either-skip (sym c.three-2.ensures ∙ c.if-three-2.false)
    (either-skip (sym c.three-3.ensures ∙ c.if-three-3.false)
    (either-skip (sym c.three-4.ensures ∙ c.if-three-4.false)
    (either-skip (sym c.four.ensures ∙ c.if-four.false)
    (either-stop _ (sym c.four-2.ensures ∙ c.if-four-2.true))))))

pub returns : goal.returns
returns c = either-skip (sym c.three.ensures ∙ c.if-three.false)
    (either-skip (sym c.three-2.ensures ∙ c.if-three-2.false)
    (either-skip (sym c.three-3.ensures ∙ c.if-three-3.false)
    (either-skip (sym c.three-4.ensures ∙ c.if-three-4.false)
    (either-skip (sym c.four.ensures ∙ c.if-four.false)
    (either-skip (sym c.four-2.ensures ∙ c.if-four-2.false) c.four-3.ensures)))))
