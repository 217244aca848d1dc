-- `Walking`: whether the place is met from here on is what was asked.
use mathlib.Core.Path.{sym, ◌∙◌}
use native.Mathlib.Omega.{arith}
use Rattle.code.proofs.Passes.{walking-none, walking-more, walking-stuck, walking-past, walking-end, start-beyond}
use Rattle.code.proofs.is_start.Goals as goal

pub returns-then-code-place : goal.returns-then-code-place
returns-then-code-place c = sym (start-beyond _ _ c.if-code-place.true)

pub loop-p-init : goal.loop-p-init
loop-p-init c = walking-none _ _

pub instruction_length-n-requires : goal.instruction_length-n-requires
instruction_length-n-requires c = (omega arith, c.lengths-table.ensures)

pub returns-then-n-eq0 : goal.returns-then-n-eq0
returns-then-n-eq0 c = sym (walking-stuck _ _ _ c.loop-p.invariant c.loop-p-test.true (sym c.instruction_length-n.ensures ∙ c.if-n-eq0.true))

pub returns-then-place-p : goal.returns-then-place-p
returns-then-place-p c = sym (walking-past _ _ _ c.loop-p.invariant c.loop-p-test.true (omega arith) (omega (arith, c.instruction_length-n.ensures)))

pub loop-p-preserved : goal.loop-p-preserved
loop-p-preserved c = rw c.instruction_length-n.ensures
    (walking-more _ _ _ c.loop-p.invariant c.loop-p-test.true (omega arith)
    (λ z. c.if-n-eq0.false (c.instruction_length-n.ensures ∙ z))
    (omega (arith, c.instruction_length-n.ensures)))

pub returns : goal.returns
returns c = sym (walking-end _ _ _ c.loop-p.invariant c.loop-p-test.false (omega arith))
