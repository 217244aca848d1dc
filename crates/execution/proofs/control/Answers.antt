-- `execution::control` meets its contract. What each function asks follows from accepted code (proofs/Accepted); what it ensures is what is asked. Assumes nothing.
use mathlib.Core.Path.{◌≡◌, refl, sym, ◌∙◌}
use mathlib.Core.Logic.{inl, inr}
use native.Mathlib.Omega.{arith}
use Rattle.verdict.specs.Verdict.{pick}
use Rattle.code.specs.Commands.{length_of, row_of}
use Rattle.processor.proofs.Accepted.{stands}
use Rattle.processor.proofs.Commands.{return-at, jump-at}
use Rattle.execution.proofs.control.Goals as goal

pub word-requires : goal.word-requires
unfolding length_of row_of pick
word-requires c = let given = c.requires in let s = stands _ _ _ given.0 1 (given.1 ∙ c.in-1.is) in omega (arith, s.whole)

pub branch-r-requires : goal.branch-r-requires
unfolding length_of row_of pick
branch-r-requires c = let given = c.requires in (inl refl, stands _ _ _ given.0 2 (given.1 ∙ c.in-2.is))

pub branch-r-requires-in-3 : goal.branch-r-requires-in-3
unfolding length_of row_of pick
branch-r-requires-in-3 c = let given = c.requires in (inr refl, stands _ _ _ given.0 3 (given.1 ∙ c.in-3.is))

pub call_instance-requires : goal.call_instance-requires
unfolding length_of row_of pick
call_instance-requires c = let given = c.requires in (stands _ _ _ given.0 4 (given.1 ∙ c.in-4.is), given.0.small)

pub call_function-requires : goal.call_function-requires
unfolding length_of row_of pick
call_function-requires c = let given = c.requires in
    let other = c.in_default.in_default-own.rest in
    let is : c.args.op ≡ 5 = omega (arith, given.2, other.1, other.0.1, other.0.0.1, other.0.0.0.1, other.0.0.0.0.1) in
    stands _ _ _ given.0 5 (given.1 ∙ is)

pub returns-in-0 : goal.returns-in-0
returns-in-0 c = sym (return-at _ _ _ (c.requires.1 ∙ c.in-0.is))

pub returns-in-1 : goal.returns-in-1
returns-in-1 c = rw c.word.ensures (sym (jump-at _ _ _ (c.requires.1 ∙ c.in-1.is)))
