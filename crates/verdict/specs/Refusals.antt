-- What is refused, by name, with its number in documents 01 and 02; the number of an answer; of one that knows more than that it is refused.
use Rattle.std.specs.Prelude.{ℕ, eqb, Result, Ok, Err, Option, Some, None}
use Rattle.verdict.specs.Verdict.{pick}
use Rattle.verdict.specs.Numbers.{cut_file, no_mark, bad_core, bad_variable, overlapping, bad_instruction, bad_target, left_over, wide_type_code, bad_start, no_such_core, bad_lengths, bad_trace, unfit_state, not_above, over_count, bad_span, few_places, bad_run, has_starts, not_produced, outside_window}
use Rattle.verdict.specs.declared.Refusal.{Refusal}
use Rattle.verdict.specs.declared.Refused.{Refused}
use Rattle.verdict.specs.declared.Refusal.TheVariants.{CutFile, NoMark, BadCore, BadVariable, Overlapping, BadInstruction, BadTarget, NoSuchCore, BadLengths, BadTrace, UnfitState, LeftOver, NotAbove, OverCount, WideType, BadSpan, FewPlaces, BadRun, BadStart, HasStarts, NotProduced, OutsideWindow}

abbrev pub number_of : Refusal → ℕ
number_of CutFile = cut_file
number_of NoMark = no_mark
number_of BadCore = bad_core
number_of BadVariable = bad_variable
number_of Overlapping = overlapping
number_of BadInstruction = bad_instruction
number_of BadTarget = bad_target
number_of NoSuchCore = no_such_core
number_of BadLengths = bad_lengths
number_of BadTrace = bad_trace
number_of UnfitState = unfit_state
number_of LeftOver = left_over
number_of NotAbove = not_above
number_of OverCount = over_count
number_of WideType = wide_type_code
number_of BadSpan = bad_span
number_of FewPlaces = few_places
number_of BadRun = bad_run
number_of BadStart = bad_start
number_of HasStarts = has_starts
number_of NotProduced = not_produced
number_of OutsideWindow = outside_window

-- the refusal number of an answer, 0 for none
abbrev pub refusal_of : {A : Type 0} → Result A Refusal → ℕ
refusal_of (Ok a) = 0
refusal_of (Err r) = number_of r

-- an answer with the number of its refusal
abbrev pub numbered : {A : Type 0} → Result A Refusal → Result A ℕ
numbered (Ok a) = Ok a
numbered (Err r) = Err (number_of r)

-- ---- an answer whose refusal has what is known beside it

abbrev pub refused_number : {A : Type 0} → Result A (Refused A) → ℕ
refused_number (Ok a) = 0
refused_number (Err r) = number_of r.refusal

-- what is asked for, as far as it is known
abbrev pub known : {A : Type 0} → Result A (Refused A) → Option A
known (Ok a) = Some a
known (Err r) = r.known

-- a, where an item's refusal number is 0, and nothing where it is refused
unfoldable pub where_accepted : {A : Type 0} → ℕ → A → Option A
where_accepted r a = pick (eqb r 0) (Some a) None
