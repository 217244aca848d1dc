-- What is cut short is refused, and an element size or count that is not on its list.
use Prim.Native.Nat.{◌+◌}
use mathlib.Core.Path.{sym, ap, ◌∙◌}
use native.Mathlib.Omega.{arith}
use Rattle.memory.specs.Memory.{byte}
use Rattle.code.specs.Code.{element_ok}
use Rattle.code.proofs.Laws.{length_whole, length_cut, length-unlisted}
use Rattle.code.proofs.accepted_lengths.element_length.Goals as goal

pub returns-then-code-p-lt-ELEMENT : goal.returns-then-code-p-lt-ELEMENT
returns-then-code-p-lt-ELEMENT c = length_cut _ _ _ c.requires.1 (omega arith)

pub returns-then-element_ok : goal.returns-then-element_ok
returns-then-element_ok c = length_whole _ _ _ c.requires.1 (omega arith) (omega arith)
    (c.requires.2
    ∙ ap (element_ok (byte c.args.code.now (c.args.p + 7))) (sym c.word.ensures)
    ∙ sym c.element_ok.ensures
    ∙ c.if-element_ok.true)

pub returns : goal.returns
returns c = length-unlisted _ _ (c.requires.2
    ∙ ap (element_ok (byte c.args.code.now (c.args.p + 7))) (sym c.word.ensures)
    ∙ sym c.element_ok.ensures
    ∙ c.if-element_ok.false)
