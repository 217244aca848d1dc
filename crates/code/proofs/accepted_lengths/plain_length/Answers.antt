-- What is cut short is refused, and nothing else.
use native.Mathlib.Omega.{arith}
use Rattle.code.proofs.Laws.{length_whole, length_cut}
use Rattle.code.proofs.accepted_lengths.plain_length.Goals as goal

pub returns-then-code-p : goal.returns-then-code-p
returns-then-code-p c = length_cut _ _ _ c.requires.2 (omega arith)

pub returns : goal.returns
returns c = length_whole _ _ _ c.requires.2 (omega arith) (omega arith) c.requires.3
