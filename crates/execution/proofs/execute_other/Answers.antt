-- `execution::execute_other` meets its contract. What each function asks follows from accepted code (proofs/Accepted); what it ensures is what is asked.
-- Assumes nothing.
use mathlib.Core.Path.{refl, sym, ◌∙◌}
use mathlib.Core.Logic.{inl, inr}
use native.Mathlib.Omega.{arith}
use Rattle.verdict.specs.Verdict.{pick}
use Rattle.code.specs.Commands.{length_of, row_of}
use Rattle.processor.proofs.Accepted.{inside-code, stands, stands-constant, stands-element, element-of, typed-inside, typed-given, stands-conversion, stands-packing, stands-unpacking, not_last}
use Rattle.processor.proofs.Commands.{return-at, jump-at, typed-done}
use Rattle.execution.proofs.execute_other.Goals as goal

pub word-requires : goal.word-requires
unfolding length_of row_of pick
word-requires c = let given = c.requires in let s = stands _ _ _ given.0 1 (given.1 ∙ c.in-1.is) in omega (arith, s.whole)

pub branch-r-requires : goal.branch-r-requires
unfolding length_of row_of pick
branch-r-requires c = let given = c.requires in (inl refl, stands _ _ _ given.0 2 (given.1 ∙ c.in-2.is))

pub branch-r-requires-in-3 : goal.branch-r-requires-in-3
unfolding length_of row_of pick
branch-r-requires-in-3 c = let given = c.requires in (inr refl, stands _ _ _ given.0 3 (given.1 ∙ c.in-3.is))

pub call_instance-requires : goal.call_instance-requires
unfolding length_of row_of pick
call_instance-requires c = let given = c.requires in (stands _ _ _ given.0 4 (given.1 ∙ c.in-4.is), given.0.small)

pub call_function-requires : goal.call_function-requires
unfolding length_of row_of pick
call_function-requires c = let given = c.requires in stands _ _ _ given.0 5 (given.1 ∙ c.in-5.is)

pub move_constant-requires : goal.move_constant-requires
move_constant-requires c = let given = c.requires in stands-constant _ _ _ given.0 (given.1 ∙ c.in-6.is)

pub copy_memory-requires : goal.copy_memory-requires
unfolding length_of row_of pick
copy_memory-requires c = let given = c.requires in (stands _ _ _ given.0 7 (given.1 ∙ c.in-7.is), given.0.small)

pub store_number-requires : goal.store_number-requires
unfolding length_of row_of pick
store_number-requires c = let given = c.requires in (inl (refl, refl, refl), stands _ _ _ given.0 41 (given.1 ∙ c.in-41.is))

pub store_number-requires-in-42 : goal.store_number-requires-in-42
unfolding length_of row_of pick
store_number-requires-in-42 c = let given = c.requires in (inr (refl, refl, refl), stands _ _ _ given.0 42 (given.1 ∙ c.in-42.is))

pub convert_value-requires : goal.convert_value-requires
convert_value-requires c = let given = c.requires in stands-conversion _ _ _ given.0 (given.1 ∙ c.in-43.is)

pub pack_digits-requires : goal.pack_digits-requires
pack_digits-requires c = let given = c.requires in stands-packing _ _ _ given.0 (given.1 ∙ c.in-44.is)

pub unpack_digits-requires : goal.unpack_digits-requires
unpack_digits-requires c = let given = c.requires in stands-unpacking _ _ _ given.0 (given.1 ∙ c.in-45.is)

pub access_element-requires : goal.access_element-requires
access_element-requires c = let given = c.requires in
    let o = element-of c.in-8.in_default-own.rest c.in-8.if-op-lt10-own.true in
    stands-element _ _ _ given.0 _ o given.1

pub single-requires : goal.single-requires
single-requires c = let given = c.requires in
    typed-inside _ _ _ given.0 27 4 (not_last _ _ _ given.0 given.1 given.2 c.in_default.in_default-own.rest c.in_default.if-op-lt10-own.false)

pub not_at-requires : goal.not_at-requires
not_at-requires c = let given = c.requires in
    typed-given _ _ _ given.0 27 4 _ (not_last _ _ _ given.0 given.1 given.2 c.in_default.in_default-own.rest c.in_default.if-op-lt10-own.false) c.single.ensures

pub overflow_add-r-in_default : goal.overflow_add-r-in_default
overflow_add-r-in_default c = let given = c.requires in omega (arith, inside-code _ _ _ given.0, given.0.short)

pub returns-in-0 : goal.returns-in-0
returns-in-0 c = sym (return-at _ _ _ (c.requires.1 ∙ c.in-0.is))

pub returns-in-1 : goal.returns-in-1
returns-in-1 c = rw c.word.ensures (sym (jump-at _ _ _ (c.requires.1 ∙ c.in-1.is)))

pub returns-in_default : goal.returns-in_default
returns-in_default c = let given = c.requires in
    typed-done _ _ _ 27 4 _ _ _ _ (not_last _ _ _ given.0 given.1 given.2 c.in_default.in_default-own.rest c.in_default.if-op-lt10-own.false) c.single.ensures.0
    c.not_at.ensures c.outcome.ensures
