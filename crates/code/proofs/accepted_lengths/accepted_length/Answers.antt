-- The code byte decides which instruction stands there; what is none of the others is typed or unknown.
use Prim.Native.Nat.{◌+◌}
use mathlib.Core.Path.{◌≡◌, ap, ◌∙◌}
use native.Mathlib.Omega.{arith}
use Rattle.verdict.specs.Verdict.{pick}
use Rattle.memory.specs.Memory.{byte}
use Rattle.values.specs.Types.{takes}
use Rattle.code.specs.Commands.{row_of, length_of}
use Rattle.code.specs.Instructions.{typed_at, instruction_at, instruction_length}
use Rattle.code.specs.Code.{operands_ok}
use Rattle.code.proofs.Laws.{typed-left, typed-takes, typed-sized}
use Rattle.code.proofs.accepted_lengths.accepted_length.Goals as goal

pub plain_length-requires : goal.plain_length-requires
unfolding instruction_length instruction_at typed_at length_of row_of pick
plain_length-requires c = (c.requires, omega arith, record { own = λ _. rw c.in-0.is; all = λ _. rw c.in-0.is }, rw c.in-0.is)

pub plain_length-requires-in-1 : goal.plain_length-requires-in-1
unfolding instruction_length instruction_at typed_at length_of row_of pick
plain_length-requires-in-1 c = (c.requires, omega arith, record { own = λ _. rw c.in-1.is; all = λ _. rw c.in-1.is }, rw c.in-1.is)

pub plain_length-requires-in-2 : goal.plain_length-requires-in-2
unfolding instruction_length instruction_at typed_at length_of row_of pick
plain_length-requires-in-2 c = (c.requires, omega arith, record { own = λ _. rw c.in-2.is; all = λ _. rw c.in-2.is }, rw c.in-2.is)

pub plain_length-requires-in-3 : goal.plain_length-requires-in-3
unfolding instruction_length instruction_at typed_at length_of row_of pick
plain_length-requires-in-3 c = (c.requires, omega arith, record { own = λ _. rw c.in-3.is; all = λ _. rw c.in-3.is }, rw c.in-3.is)

pub plain_length-requires-in-4 : goal.plain_length-requires-in-4
unfolding instruction_length instruction_at typed_at length_of row_of pick
plain_length-requires-in-4 c = (c.requires, omega arith, record { own = λ _. rw c.in-4.is; all = λ _. rw c.in-4.is }, rw c.in-4.is)

pub plain_length-requires-in-5 : goal.plain_length-requires-in-5
unfolding instruction_length instruction_at typed_at length_of row_of pick
plain_length-requires-in-5 c = (c.requires, omega arith, record { own = λ _. rw c.in-5.is; all = λ _. rw c.in-5.is }, rw c.in-5.is)

pub plain_length-requires-in-7 : goal.plain_length-requires-in-7
unfolding instruction_length instruction_at typed_at length_of row_of pick
plain_length-requires-in-7 c = (c.requires, omega arith, record { own = λ _. rw c.in-7.is; all = λ _. rw c.in-7.is }, rw c.in-7.is)

pub element_length-requires : goal.element_length-requires
unfolding instruction_length instruction_at typed_at length_of row_of pick
element_length-requires c = (c.requires, record { own = λ _. rw c.in-8.is; all = λ _. rw c.in-8.is }, rw c.in-8.is)

pub element_length-requires-in-9 : goal.element_length-requires-in-9
unfolding instruction_length instruction_at typed_at length_of row_of pick
element_length-requires-in-9 c = (c.requires, record { own = λ _. rw c.in-9.is; all = λ _. rw c.in-9.is }, rw c.in-9.is)

pub typed_length-requires : goal.typed_length-requires
unfolding instruction_length instruction_at typed_at length_of row_of pick
typed_length-requires c = (c.requires, omega arith, record { own = λ _. rw c.in-27.is; all = λ _. rw c.in-27.is }, rw c.in-27.is)

pub plain_length-requires-in-41 : goal.plain_length-requires-in-41
unfolding instruction_length instruction_at typed_at length_of row_of pick
plain_length-requires-in-41 c = (c.requires, omega arith, record { own = λ _. rw c.in-41.is; all = λ _. rw c.in-41.is }, rw c.in-41.is)

pub plain_length-requires-in-42 : goal.plain_length-requires-in-42
unfolding instruction_length instruction_at typed_at length_of row_of pick
plain_length-requires-in-42 c = (c.requires, omega arith, record { own = λ _. rw c.in-42.is; all = λ _. rw c.in-42.is }, rw c.in-42.is)

pub conversion_length-requires : goal.conversion_length-requires
unfolding instruction_length instruction_at typed_at length_of row_of pick
conversion_length-requires c = (c.requires, record { own = λ _. rw c.in-43.is; all = λ _. rw c.in-43.is }, rw c.in-43.is)

pub packed_length-requires : goal.packed_length-requires
unfolding instruction_length instruction_at typed_at length_of row_of pick
packed_length-requires c = (c.requires, record { own = λ _. rw c.in-44.is; all = λ _. rw c.in-44.is }, rw c.in-44.is)

pub packed_length-requires-in-45 : goal.packed_length-requires-in-45
unfolding instruction_length instruction_at typed_at length_of row_of pick
packed_length-requires-in-45 c = (c.requires, record { own = λ _. rw c.in-45.is; all = λ _. rw c.in-45.is }, rw c.in-45.is)

pub typed_length-requires-in-16 : goal.typed_length-requires-in-16
unfolding instruction_length instruction_at typed_at length_of row_of pick
typed_length-requires-in-16 c = (c.requires, omega arith, record { own = λ _. rw c.in-16.is; all = λ _. rw c.in-16.is }, rw c.in-16.is)

pub typed_length-requires-in-17 : goal.typed_length-requires-in-17
unfolding instruction_length instruction_at typed_at length_of row_of pick
typed_length-requires-in-17 c = (c.requires, omega arith, record { own = λ _. rw c.in-17.is; all = λ _. rw c.in-17.is }, rw c.in-17.is)

pub typed_length-requires-in-18 : goal.typed_length-requires-in-18
unfolding instruction_length instruction_at typed_at length_of row_of pick
typed_length-requires-in-18 c = (c.requires, omega arith, record { own = λ _. rw c.in-18.is; all = λ _. rw c.in-18.is }, rw c.in-18.is)

pub typed_length-requires-in-19 : goal.typed_length-requires-in-19
unfolding instruction_length instruction_at typed_at length_of row_of pick
typed_length-requires-in-19 c = (c.requires, omega arith, record { own = λ _. rw c.in-19.is; all = λ _. rw c.in-19.is }, rw c.in-19.is)

pub typed_length-requires-in-20 : goal.typed_length-requires-in-20
unfolding instruction_length instruction_at typed_at length_of row_of pick
typed_length-requires-in-20 c = (c.requires, omega arith, record { own = λ _. rw c.in-20.is; all = λ _. rw c.in-20.is }, rw c.in-20.is)

pub typed_length-requires-in-24 : goal.typed_length-requires-in-24
unfolding instruction_length instruction_at typed_at length_of row_of pick
typed_length-requires-in-24 c = (c.requires, omega arith, record { own = λ _. rw c.in-24.is; all = λ _. rw c.in-24.is }, rw c.in-24.is)

pub typed_length-requires-in-25 : goal.typed_length-requires-in-25
unfolding instruction_length instruction_at typed_at length_of row_of pick
typed_length-requires-in-25 c = (c.requires, omega arith, record { own = λ _. rw c.in-25.is; all = λ _. rw c.in-25.is }, rw c.in-25.is)

pub typed_length-requires-in-26 : goal.typed_length-requires-in-26
unfolding instruction_length instruction_at typed_at length_of row_of pick
typed_length-requires-in-26 c = (c.requires, omega arith, record { own = λ _. rw c.in-26.is; all = λ _. rw c.in-26.is }, rw c.in-26.is)

pub typed_length-requires-in-28 : goal.typed_length-requires-in-28
unfolding instruction_length instruction_at typed_at length_of row_of pick
typed_length-requires-in-28 c = (c.requires, omega arith, record { own = λ _. rw c.in-28.is; all = λ _. rw c.in-28.is }, rw c.in-28.is)

pub typed_length-requires-in-29 : goal.typed_length-requires-in-29
unfolding instruction_length instruction_at typed_at length_of row_of pick
typed_length-requires-in-29 c = (c.requires, omega arith, record { own = λ _. rw c.in-29.is; all = λ _. rw c.in-29.is }, rw c.in-29.is)

pub typed_length-requires-in-30 : goal.typed_length-requires-in-30
unfolding instruction_length instruction_at typed_at length_of row_of pick
typed_length-requires-in-30 c = (c.requires, omega arith, record { own = λ _. rw c.in-30.is; all = λ _. rw c.in-30.is }, rw c.in-30.is)

pub typed_length-requires-in-31 : goal.typed_length-requires-in-31
unfolding instruction_length instruction_at typed_at length_of row_of pick
typed_length-requires-in-31 c = (c.requires, omega arith, record { own = λ _. rw c.in-31.is; all = λ _. rw c.in-31.is }, rw c.in-31.is)

pub typed_length-requires-in-32 : goal.typed_length-requires-in-32
unfolding instruction_length instruction_at typed_at length_of row_of pick
typed_length-requires-in-32 c = (c.requires, omega arith, record { own = λ _. rw c.in-32.is; all = λ _. rw c.in-32.is }, rw c.in-32.is)

pub typed_length-requires-in-33 : goal.typed_length-requires-in-33
unfolding instruction_length instruction_at typed_at length_of row_of pick
typed_length-requires-in-33 c = (c.requires, omega arith, record { own = λ _. rw c.in-33.is; all = λ _. rw c.in-33.is }, rw c.in-33.is)

pub typed_length-requires-in-34 : goal.typed_length-requires-in-34
unfolding instruction_length instruction_at typed_at length_of row_of pick
typed_length-requires-in-34 c = (c.requires, omega arith, record { own = λ _. rw c.in-34.is; all = λ _. rw c.in-34.is }, rw c.in-34.is)

pub typed_length-requires-in-35 : goal.typed_length-requires-in-35
unfolding instruction_length instruction_at typed_at length_of row_of pick
typed_length-requires-in-35 c = (c.requires, omega arith, record { own = λ _. rw c.in-35.is; all = λ _. rw c.in-35.is }, rw c.in-35.is)

pub typed_length-requires-in-36 : goal.typed_length-requires-in-36
unfolding instruction_length instruction_at typed_at length_of row_of pick
typed_length-requires-in-36 c = (c.requires, omega arith, record { own = λ _. rw c.in-36.is; all = λ _. rw c.in-36.is }, rw c.in-36.is)

pub typed_length-requires-in-37 : goal.typed_length-requires-in-37
unfolding instruction_length instruction_at typed_at length_of row_of pick
typed_length-requires-in-37 c = (c.requires, omega arith, record { own = λ _. rw c.in-37.is; all = λ _. rw c.in-37.is }, rw c.in-37.is)

pub typed_length-requires-in_default : goal.typed_length-requires-in_default
typed_length-requires-in_default c = let code = c.args.code.now in
    let p = c.args.p in
    let known = c.in_default.in_default-own.rest.0.0.0.0.0.0.0.0.0.0.0.0.0.0.0.0.0.0 in
    let b = (c.type_inv.code p).fits in
    let left = typed-left code p
    known.0.0.0.0.0.0.0.0.0.0.0.0.0.0.0.1 known.0.0.0.0.0.0.0.0.0.0.0.0.0.0.1 known.0.0.0.0.0.0.0.0.0.0.0.0.0.1 known.0.0.0.0.0.0.0.0.0.0.0.0.1 known.0.0.0.0.0.0.0.0.0.0.0.1
    known.0.0.0.0.0.0.0.0.0.0.1 known.0.0.0.0.0.0.0.0.0.1 known.0.0.0.0.0.0.0.0.1 known.0.0.0.0.0.0.0.1 known.0.0.0.0.0.0.1
    known.0.0.0.0.1 known.0.0.0.1 known.0.0.1 known.0.1 known.1 in
    let o : operands_ok (instruction_at code p) ≡ takes (byte code p) (byte code (p + 1)) = ap operands_ok left ∙ typed-takes _ _ b in
    (c.requires, omega arith, typed-sized _ _ b known.0.0.0.0.0.0.0.0.0.1 known.0.0.0.0.0.1 o, o)
