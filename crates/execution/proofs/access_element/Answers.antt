-- Each return is a way of AURD and AUWD (proofs/Commands): the addresses, the index, the element, then the copy.
use mathlib.Core.Path.{sym, ◌∙◌}
use native.Mathlib.Omega.{arith}
use Rattle.values.proofs.Widths.{width-le}
use Rattle.processor.proofs.Commands.{element-beyond, element-index, element-outside, element-done}
use Rattle.processor.proofs.Inside.{inside, both-inside, select-both}
use Rattle.execution.proofs.access_element.Goals as goal

pub overflow_cast-size : goal.overflow_cast-size
overflow_cast-size c = omega (arith, width-le c.requires.2)

pub any_beyond-requires : goal.any_beyond-requires
any_beyond-requires c = (omega arith, omega (arith, width-le c.requires.2), omega arith, omega arith)

pub returns-then-any_beyond : goal.returns-then-any_beyond
returns-then-any_beyond c = element-beyond _ _ _ _ _ _ _ c.requires.0 c.requires.1.here c.operand-variable.ensures.0 c.operand-index.ensures.0
    c.any_beyond.ensures c.if-any_beyond.true

pub word-i-requires : goal.word-i-requires
word-i-requires c = (both-inside _ _ _ _ _ (sym c.any_beyond.ensures ∙ c.if-any_beyond.false)).1

pub returns-then-word-i : goal.returns-then-word-i
returns-then-word-i c = element-index _ _ _ _ _ _ _ _ _ c.requires.0 c.requires.1.here c.operand-variable.ensures.0 c.operand-index.ensures.0
    c.any_beyond.ensures c.if-any_beyond.false c.word-i.ensures c.word.ensures c.if-word-i.true

pub element_place-element-requires : goal.element_place-element-requires
element_place-element-requires c = (c.operand.ensures.1, width-le c.requires.2)

pub is_beyond-requires : goal.is_beyond-requires
is_beyond-requires c = (c.element_place-element.ensures.1, omega (arith, width-le c.requires.2))

pub returns-then-is_beyond : goal.returns-then-is_beyond
returns-then-is_beyond c = element-outside _ _ _ _ _ _ _ _ _ _ _ _ c.requires.0 c.requires.1.here c.operand-variable.ensures.0 c.operand-index.ensures.0
    c.any_beyond.ensures c.if-any_beyond.false c.word-i.ensures c.word.ensures c.if-word-i.false
    c.operand.ensures.0 c.element_place-element.ensures.0 c.is_beyond.ensures c.if-is_beyond.true

pub copy_element-requires : goal.copy_element-requires
copy_element-requires c = (
  c.requires.2,
  select-both _ _ _ _ _ _ c.select.ensures (both-inside _ _ _ _ _ (sym c.any_beyond.ensures ∙ c.if-any_beyond.false)).0
      (inside _ _ _ (sym c.is_beyond.ensures ∙ c.if-is_beyond.false)),
  select-both _ _ _ _ _ _ c.select-2.ensures (inside _ _ _ (sym c.is_beyond.ensures ∙ c.if-is_beyond.false))
      (both-inside _ _ _ _ _ (sym c.any_beyond.ensures ∙ c.if-any_beyond.false)).0,
)

pub overflow_add-result : goal.overflow_add-result
overflow_add-result c = omega (arith, c.requires.1.whole, c.requires.1.short)

pub returns : goal.returns
returns c = element-done _ _ _ _ _ _ _ _ _ _ _ _ _ _ _ c.requires.0 c.requires.1.here c.operand-variable.ensures.0 c.operand-index.ensures.0
    c.any_beyond.ensures c.if-any_beyond.false c.word-i.ensures c.word.ensures c.if-word-i.false
    c.operand.ensures.0 c.element_place-element.ensures.0 c.is_beyond.ensures c.if-is_beyond.false
    c.select.ensures c.select-2.ensures c.copy_element.ensures
