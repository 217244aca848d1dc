-- `steps::after::registers_after` meets its contract, by the answer. Assumes nothing.
use mathlib.Core.Path.{sym, ap, ◌∙◌}
use Rattle.protocol.specs.Registers.{read_acquired, byte_copied, read_released, write_acquired, write_released}
use Rattle.steps.proofs.after.registers_after.Goals as goal

pub byte_copied-requires : goal.byte_copied-requires
byte_copied-requires c = rw c.in-ReadOn.is at c.requires

pub byte_copied-requires-in-WriteOn : goal.byte_copied-requires-in-WriteOn
byte_copied-requires-in-WriteOn c = rw c.in-WriteOn.is at c.requires

pub write_released-requires : goal.write_released-requires
write_released-requires c = rw c.in-WriteEnded.is at c.requires

pub returns-in-Rests : goal.returns-in-Rests
returns-in-Rests c = rw c.in-Rests.is (λ core e. sym e)

pub returns-in-Joins : goal.returns-in-Joins
returns-in-Joins c = rw c.in-Joins.is (λ core e. sym e)

pub returns-in-ReadBegun : goal.returns-in-ReadBegun
returns-in-ReadBegun c = rw c.in-ReadBegun.is (λ core e. c.read_acquired.ensures ∙ ap (read_acquired _) (sym e))

pub returns-in-ReadOn : goal.returns-in-ReadOn
returns-in-ReadOn c = rw c.in-ReadOn.is (λ core e. c.byte_copied.ensures ∙ ap byte_copied (sym e))

pub returns-in-ReadEnded : goal.returns-in-ReadEnded
returns-in-ReadEnded c = rw c.in-ReadEnded.is (λ core e. c.read_released.ensures ∙ ap read_released (sym e))

pub returns-in-WriteBegun : goal.returns-in-WriteBegun
returns-in-WriteBegun c = rw c.in-WriteBegun.is (λ core e. c.write_acquired.ensures ∙ ap write_acquired (sym e))

pub returns-in-WriteOn : goal.returns-in-WriteOn
returns-in-WriteOn c = rw c.in-WriteOn.is (λ core e. c.byte_copied-in-WriteOn.ensures ∙ ap byte_copied (sym e))

pub returns-in-WriteEnded : goal.returns-in-WriteEnded
returns-in-WriteEnded c = rw c.in-WriteEnded.is (λ core e. c.write_released.ensures ∙ ap write_released (sym e))
