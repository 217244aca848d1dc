-- Each return is a way of 41 and 42 (proofs/Commands); past the address test the store lies inside the data.
use mathlib.Core.Path.{sym, ◌∙◌}
use mathlib.Core.Logic.{⊎_elim}
use native.Mathlib.Omega.{arith}
use Rattle.processor.proofs.Inside.{inside}
use Rattle.processor.proofs.Commands.{report-beyond, report-done}
use Rattle.execution.proofs.store_number.Goals as goal

pub is_beyond-requires : goal.is_beyond-requires
is_beyond-requires c = (omega arith, ⊎_elim (λ w. omega (arith, w.1)) (λ w. omega (arith, w.1)) c.requires.0)

pub returns-then-is_beyond : goal.returns-then-is_beyond
returns-then-is_beyond c = report-beyond _ _ _ _ _ _ _ _ c.requires.0 c.requires.1.here c.operand-to.ensures.0 c.is_beyond.ensures c.if-is_beyond.true

pub store-requires : goal.store-requires
store-requires c = inside _ _ _ (sym c.is_beyond.ensures ∙ c.if-is_beyond.false)

pub returns : goal.returns
returns c = report-done _ _ _ _ _ _ _ _ _ c.requires.0 c.requires.1.here c.operand-to.ensures.0 c.is_beyond.ensures
    c.if-is_beyond.false c.store.ensures
