-- `order::eight_on` meets its contract: eight equal bytes are k times eight bytes of 1. Assumes nothing.
use mathlib.Core.Path.{sym, ◌∙◌}
use native.Mathlib.Omega.{arith}
use borrow.Author.Tests.{eqb-true}
use Rattle.verdict.proofs.Verdict.{absurd-bool}
use Rattle.order.proofs.Eight.{eight-equal}
use Rattle.order.proofs.eight_on.Goals as goal

pub returns-then-room-lt8 : goal.returns-then-room-lt8
returns-then-room-lt8 c = λ e. absurd-bool e

pub returns : goal.returns
returns c = let p = c.requires in
    λ e. (omega (arith, c.if-room-lt8.false), eight-equal _ _ _ (omega (arith, p.0, c.if-room-lt8.false)) p.1 (λ j. omega (arith, c.type_inv.order j)) (sym c.load.ensures.0 ∙ eqb-true _ _ e))
