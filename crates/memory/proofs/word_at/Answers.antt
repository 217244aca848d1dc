use mathlib.Core.Path.{sym}
use native.Mathlib.Omega.{arith}
use Rattle.memory.proofs.Number.{read_word, read-beyond}
use Rattle.memory.proofs.word_at.Goals as goal

pub returns-then-s-place : goal.returns-then-s-place
returns-then-s-place c = (sym (read-beyond _ _ 2 c.if-s-place.true), omega arith)

pub overflow_cast-low : goal.overflow_cast-low
overflow_cast-low c = omega (arith, c.type_inv.s c.args.place)

pub overflow_add-result : goal.overflow_add-result
overflow_add-result c = omega (arith, c.type_inv.s c.args.place, c.byte_at-high.type_inv)

pub returns : goal.returns
returns c = (
  rw (read_word c.args.s.now c.args.place, c.byte_at-high.ensures),
  omega (arith, c.type_inv.s c.args.place, c.byte_at-high.type_inv),
)
