-- The table's length, and MCD's n.
use native.Mathlib.Omega.{arith}
use borrow.Author.Tests.{eq-eqb, ne_eqb}
use Rattle.verdict.specs.Verdict.{pick}
use Rattle.code.specs.Instructions.{instruction_length}
use Rattle.code.proofs.Laws.{short}
use Rattle.code.proofs.instruction_length.Goals as goal

pub overflow_cast-n : goal.overflow_cast-n
overflow_cast-n c = omega (arith, c.type_inv.code c.args.p)

pub bounds-lengths-b : goal.bounds-lengths-b
bounds-lengths-b c = omega (arith, c.type_inv.code c.args.p)

pub overflow_cast-n-2 : goal.overflow_cast-n-2
overflow_cast-n-2 c = omega (arith, c.requires.1.right _ (c.type_inv.code c.args.p).fits, short _ (c.type_inv.code c.args.p).fits)

pub overflow_add-result : goal.overflow_add-result
overflow_add-result c = omega (
  arith,
  c.requires.1.right _ (c.type_inv.code c.args.p).fits,
  short _ (c.type_inv.code c.args.p).fits,
)

pub returns-then-b-eq6 : goal.returns-then-b-eq6
unfolding instruction_length pick
returns-then-b-eq6 c = rw (eq-eqb _ _ c.if-b-eq6.true, c.requires.1.right _ (c.type_inv.code c.args.p).fits, c.byte_at.ensures)

pub returns : goal.returns
unfolding instruction_length pick
returns c = rw (ne_eqb _ _ c.if-b-eq6.false, c.requires.1.right _ (c.type_inv.code c.args.p).fits) (omega arith)
