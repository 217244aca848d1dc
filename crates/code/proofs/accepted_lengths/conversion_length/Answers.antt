-- What is cut short is refused, and a type outside 1 to 10, of the source or of the destination.
use mathlib.Core.Path.{sym, ◌∙◌}
use native.Mathlib.Omega.{arith}
use Rattle.code.proofs.Laws.{length_whole, length_cut, length-unlisted}
use Rattle.code.proofs.accepted_lengths.conversion_length.Goals as goal

pub returns-then-code-p-lt-CONVERT : goal.returns-then-code-p-lt-CONVERT
returns-then-code-p-lt-CONVERT c = length_cut _ _ _ c.requires.1 (omega arith)

pub returns-then-not-inside : goal.returns-then-not-inside
returns-then-not-inside c = length-unlisted _ _ (c.requires.2 ∙ rw (sym c.inside.ensures ∙ c.if-not-inside.true))

pub returns-then-not-inside-2 : goal.returns-then-not-inside-2
returns-then-not-inside-2 c = length-unlisted _ _ (c.requires.2 ∙ rw (sym c.inside.ensures ∙ c.if-not-inside.false, sym c.inside-2.ensures ∙ c.if-not-inside-2.true))

pub returns : goal.returns
returns c = length_whole _ _ _ c.requires.1 (omega arith) (omega arith)
    (c.requires.2
    ∙ rw (sym c.inside.ensures ∙ c.if-not-inside.false, sym c.inside-2.ensures ∙ c.if-not-inside-2.false))
