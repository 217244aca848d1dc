-- `bounds::rises_at` meets its contract: only the code bytes 1 to 5 have a T. Assumes nothing.
use mathlib.Core.Path.{sym, ◌∙◌}
use borrow.Author.Tests.{eq-eqb, lt-ltb}
use native.Mathlib.Omega.{arith}
use mathlib.Core.Logic.{inl, inr}
use Rattle.bounds.proofs.Bytes.{rises-none, rises-as}
use Rattle.bounds.proofs.rises_at.Goals as goal

pub returns-then-b-eq0 : goal.returns-then-b-eq0
returns-then-b-eq0 c = eq-eqb _ _ c.if-b-eq0.true ∙ sym (rises-none _ _ (inl c.if-b-eq0.true))

pub returns-then-b-gt5 : goal.returns-then-b-gt5
returns-then-b-gt5 c = lt-ltb _ _ c.if-b-gt5.true ∙ sym (rises-none _ _ (inr c.if-b-gt5.true))

pub returns-else-b-gt5 : goal.returns-else-b-gt5
returns-else-b-gt5 c = rises-as _ _ _ (omega (arith, c.if-b-eq0.false)) c.if-b-gt5.false c.target_at.ensures
