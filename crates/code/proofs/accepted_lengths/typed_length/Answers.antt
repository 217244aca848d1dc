-- What is cut short is refused, and a type that the command does not take.
use mathlib.Core.Path.{sym, ◌∙◌}
use native.Mathlib.Omega.{arith}
use Rattle.code.proofs.Laws.{length_whole, length_cut, length-unlisted}
use Rattle.code.proofs.accepted_lengths.typed_length.Goals as goal

pub returns-then-code-p : goal.returns-then-code-p
returns-then-code-p c = length_cut _ _ _ c.requires.2 (omega arith)

pub returns-then-takes_type : goal.returns-then-takes_type
returns-then-takes_type c = length_whole _ _ _ c.requires.2 (omega arith) (omega arith) (c.requires.3 ∙ sym c.takes_type.ensures ∙ c.if-takes_type.true)

pub returns : goal.returns
returns c = length-unlisted _ _ (c.requires.3 ∙ sym c.takes_type.ensures ∙ c.if-takes_type.false)
