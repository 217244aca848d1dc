-- `snapshot::found_in` meets its contract: by the refusal number. Assumes nothing.
use mathlib.Core.Path.{sym}
use borrow.Author.Tests.{eq-eqb, ne_eqb}
use Rattle.verdict.proofs.Verdict.{pick_true, pick-false}
use Rattle.snapshot.proofs.found_in.Goals as goal

pub returns-then-r-ne0 : goal.returns-then-r-ne0
returns-then-r-ne0 c = sym (pick-false _ _ _ (ne_eqb _ 0 c.if-r-ne0.true))

pub returns : goal.returns
returns c = sym (pick_true _ _ _ (eq-eqb _ 0 c.if-r-ne0.false))
