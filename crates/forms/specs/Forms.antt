-- Document 02, 2.12: "An old file becomes new with counts of 0. A new file goes back exactly if all its counts are 0, and both ways together return the first
-- file. Either converter gives 2 for a file already in the form it makes, and lent bytes past its output stay." Refused besides: 1, a file of less than
-- four bytes; the file's own numbers; 32, "a file with start values sent back, between 24 and 21"; 21, an output too short.
-- In order: the two forms of a file; refusals; the calls, for every input; over C. Not here: that both ways return the first file (`BothWays`).
use Rattle.std.specs.Prelude.{ℕ, ◌-◌, ◌*◌, Bool, List, ◌++◌, leb, eqb, length, Result, Ok, Err}
use Rattle.verdict.specs.Numbers.{no_mark, bad_lengths, has_starts}
use Rattle.verdict.specs.Verdict.{pick, upto, next, unless}
use Rattle.verdict.specs.Refusals.{number_of}
use Rattle.verdict.specs.declared.Refusal.{Refusal}
use Rattle.memory.specs.Memory.{splice, part}
use Rattle.protocol.specs.Fresh.{zeros}
use Rattle.records.specs.File.{cores}
use Rattle.records.specs.Records.{present}
use Rattle.taskset.specs.Judge.{old_mark, new_mark, is_old, is_new, start_place, judge}
use Rattle.taskset.specs.Starts.{start_count}

-- ---- the two forms

-- cores, variables and code: all between the mark and the start values
unfoldable pub body_of : List ℕ → List ℕ
body_of f = part f 4 (start_place f 0 - 4)

-- with a count of 0 for each core
unfoldable pub to_new : List ℕ → List ℕ
to_new f = new_mark ++ (body_of f ++ zeros (2 * cores f))

unfoldable pub to_old : List ℕ → List ℕ
to_old f = old_mark ++ body_of f

-- all counts are 0
unfoldable pub no_starts : List ℕ → Bool
no_starts f = upto (λ k. eqb (start_count f k) 0) (cores f)

-- ---- refusals, with an output of this many bytes

unfoldable pub to_new_refusal : List ℕ → ℕ → ℕ
to_new_refusal f room = next (present f 4) (next (unless (is_old f) no_mark) (next (judge f) (unless (leb (length (to_new f)) room) bad_lengths)))

unfoldable pub to_old_refusal : List ℕ → ℕ → ℕ
to_old_refusal f room =
    next (present f 4)
    (next (unless (is_new f) no_mark) (next (judge f) (next (unless (no_starts f) has_starts) (unless (leb (length (to_old f)) room) bad_lengths))))

-- ---- the calls

-- what a call answers: the refusal number, 0 for none, and how many bytes were written
pub record FormAnswer : Type 0 where
  pub refusal : ℕ
  pub length : ℕ

-- an answer of the code: how many, or the refusal
abbrev pub form_answer : Result ℕ Refusal → FormAnswer
form_answer (Ok n) = record { refusal = 0; length = n }
form_answer (Err r) = record { refusal = number_of r; length = 0 }

-- the answer, and what the output holds afterwards
pub record ConversionLeft : Type 0 where
  pub answer : FormAnswer
  pub output : List ℕ

abbrev pub conversion_left : ℕ → ℕ → List ℕ → ConversionLeft
conversion_left r n out = record { answer = record { refusal = r; length = n }; output = out }

-- the file g goes to the front of the output, the bytes past it stay; a refused call writes nothing
unfoldable pub convert_call : ℕ → List ℕ → List ℕ → ConversionLeft
convert_call r g out = pick (eqb r 0) (conversion_left 0 (length g) (splice out 0 g)) (conversion_left r 0 out)

abbrev pub to_new_call : List ℕ → List ℕ → ConversionLeft
to_new_call f out = convert_call (to_new_refusal f (length out)) (to_new f) out

abbrev pub to_old_call : List ℕ → List ℕ → ConversionLeft
to_old_call f out = convert_call (to_old_refusal f (length out)) (to_old f) out

-- ---- over C: the length goes to a lent place, which a refused call leaves as it was

pub record ConvertedLent : Type 0 where
  pub refusal : ℕ
  pub place : ℕ
  pub output : List ℕ

abbrev pub converted_lent : ℕ → ℕ → List ℕ → ConvertedLent
converted_lent r n out = record { refusal = r; place = n; output = out }

unfoldable pub lent_by : ConversionLeft → ℕ → ConvertedLent
lent_by x place = converted_lent x.answer.refusal (pick (eqb x.answer.refusal 0) x.answer.length place) x.output

abbrev pub to_new_lent : List ℕ → List ℕ → ℕ → ConvertedLent
to_new_lent f out place = lent_by (to_new_call f out) place

abbrev pub to_old_lent : List ℕ → List ℕ → ℕ → ConvertedLent
to_old_lent f out place = lent_by (to_old_call f out) place
