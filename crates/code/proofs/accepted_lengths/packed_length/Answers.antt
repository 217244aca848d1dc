-- What is cut short is refused, and a type other than 2, 4, 6 and 8.
use mathlib.Core.Path.{sym, ◌∙◌}
use native.Mathlib.Omega.{arith}
use Rattle.code.proofs.Laws.{length_whole, length_cut, length-unlisted}
use Rattle.code.proofs.accepted_lengths.packed_length.Goals as goal

pub returns-then-code-p-lt-PACKED : goal.returns-then-code-p-lt-PACKED
returns-then-code-p-lt-PACKED c = length_cut _ _ _ c.requires.1 (omega arith)

pub returns-then-is_packable : goal.returns-then-is_packable
returns-then-is_packable c = length_whole _ _ _ c.requires.1 (omega arith) (omega arith) (c.requires.2 ∙ sym c.is_packable.ensures ∙ c.if-is_packable.true)

pub returns : goal.returns
returns c = length-unlisted _ _ (c.requires.2 ∙ sym c.is_packable.ensures ∙ c.if-is_packable.false)
