-- `steps::bytes_ahead` meets its contract. Assumes nothing.
use mathlib.Core.Logic.{inl, inr}
use native.Mathlib.Omega.{arith}
use Rattle.steps.proofs.bytes_ahead.Goals as goal

pub returns-then-next-c : goal.returns-then-next-c
returns-then-next-c c = λ h. inl (c.if-mode-eq-READING.true, omega (arith, c.if-next-c.true))

pub returns-then-next-c-2 : goal.returns-then-next-c-2
returns-then-next-c-2 c = λ h. inr (c.if-mode-eq-WRITING.true, omega (arith, c.if-next-c-2.true))

pub returns-else-next-c : goal.returns-else-next-c
returns-else-next-c c = λ h. absurd (omega arith)

pub returns-else-next-c-2 : goal.returns-else-next-c-2
returns-else-next-c-2 c = λ h. absurd (omega arith)

pub returns-else-mode-eq-WRITING : goal.returns-else-mode-eq-WRITING
returns-else-mode-eq-WRITING c = λ h. absurd (omega arith)
