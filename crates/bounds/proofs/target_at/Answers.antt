-- `bounds::target_at` meets its contract: the code byte says where T stands. Assumes nothing.
use mathlib.Core.Path.{sym}
use native.Mathlib.Omega.{arith}
use Rattle.verdict.specs.Verdict.{pick}
use Rattle.code.specs.Commands.{row_of, length_of}
use Rattle.code.specs.Flow.{target_at}
use Rattle.code.proofs.Laws.{length_at}
use Rattle.bounds.proofs.Bytes.{no-target-byte}
use Rattle.bounds.proofs.target_at.Goals as goal

pub word-requires : goal.word-requires
unfolding length_of row_of pick
word-requires c = omega (arith, length_at _ c.in-1.is)

pub word-requires-in-2 : goal.word-requires-in-2
unfolding length_of row_of pick
word-requires-in-2 c = omega (arith, length_at _ c.in-2.is)

pub word-requires-in-3 : goal.word-requires-in-3
unfolding length_of row_of pick
word-requires-in-3 c = omega (arith, length_at _ c.in-3.is)

pub word-requires-in-4 : goal.word-requires-in-4
unfolding length_of row_of pick
word-requires-in-4 c = omega (arith, length_at _ c.in-4.is)

pub word-requires-in-5 : goal.word-requires-in-5
unfolding length_of row_of pick
word-requires-in-5 c = omega (arith, length_at _ c.in-5.is)

pub returns-in-1 : goal.returns-in-1
unfolding target_at row_of pick
returns-in-1 c = rw c.in-1.is c.word.ensures

pub returns-in-2 : goal.returns-in-2
unfolding target_at row_of pick
returns-in-2 c = rw c.in-2.is c.word-in-2.ensures

pub returns-in-3 : goal.returns-in-3
unfolding target_at row_of pick
returns-in-3 c = rw c.in-3.is c.word-in-3.ensures

pub returns-in-4 : goal.returns-in-4
unfolding target_at row_of pick
returns-in-4 c = rw c.in-4.is c.word-in-4.ensures

pub returns-in-5 : goal.returns-in-5
unfolding target_at row_of pick
returns-in-5 c = rw c.in-5.is c.word-in-5.ensures

pub returns-in_default : goal.returns-in_default
returns-in_default c = let n = c.in_default.in_default-own.rest in sym (no-target-byte _ _ n.0.0.0.0.1 n.0.0.0.1 n.0.0.1 n.0.1 n.1)
