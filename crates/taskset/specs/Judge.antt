-- Document 01, "Refusals": the number of a task set file, 0 where it is accepted. The file is judged front to back: presence of each item (1),
-- then the item. A file is judged for a profile (document 02, 2.10); what is said of no profile is meant of the full one. In order: mark and cores; variables; code; start values; the whole file.
use Rattle.std.specs.Prelude.{ℕ, zero, suc, ◌+◌, ◌-◌, ◌*◌, List, [], ◌∷◌, Bool, length, ltb, leb, eqb}
use Rattle.verdict.specs.Numbers.{no_mark, bad_core, bad_variable, bad_instruction, left_over, bad_start}
use Rattle.verdict.specs.Verdict.{pick, both, either, within, next, unless, first}
use Rattle.memory.specs.Memory.{byte, word, part}
use Rattle.code.specs.declared.Profile.{Profile}
use Rattle.code.specs.declared.Profile.TheVariants.{Full}
use Rattle.code.specs.Code.{judge_code_for}
use Rattle.records.specs.File.{cores, data_size, count_place, variables, record_place}
use Rattle.records.specs.Records.{present, core_refusal, variable_refusal, overlap_refusal}

-- ---- mark and cores

-- 4D 43 53 31 hex; the new form, which has start values after the code (document 02, 2.12), has 4D 43 53 32 hex
abbrev pub old_mark : List ℕ
old_mark = 77 ∷ 67 ∷ 83 ∷ 49 ∷ []

abbrev pub new_mark : List ℕ
new_mark = 77 ∷ 67 ∷ 83 ∷ 50 ∷ []

-- the file begins with these four bytes
unfoldable pub has_mark : List ℕ → List ℕ → Bool
has_mark m f =
    both (eqb (byte f 0) (byte m 0)) (both (eqb (byte f 1) (byte m 1)) (both (eqb (byte f 2) (byte m 2)) (eqb (byte f 3) (byte m 3))))

abbrev pub is_old : List ℕ → Bool
is_old f = has_mark old_mark f

abbrev pub is_new : List ℕ → Bool
is_new f = has_mark new_mark f

abbrev pub is_mark : List ℕ → Bool
is_mark f = either (is_old f) (is_new f)

unfoldable pub head_refusal : Profile → List ℕ → ℕ
head_refusal profile f =
    next (present f 4)
    (next (unless (is_mark f) no_mark)
    (next (present f 5)
    (next (unless (within 1 4 (cores f)) bad_core) (first (core_refusal profile f) (cores f - 0) 0))))

-- ---- variables: all records, then all pairs

unfoldable pub variables_refusal : List ℕ → ℕ
variables_refusal f =
    next (present f (count_place f + 1))
    (next (unless (leb (variables f) 64) bad_variable)
    (next (first (variable_refusal f) (variables f - 0) 0) (first (overlap_refusal f) (variables f - 0) 0)))

-- ---- code

-- where the length of core k's code stands; at the number of cores, where the code of the last one ends
unfoldable pub code_place : List ℕ → ℕ → ℕ
code_place f zero = record_place f (variables f)
code_place f (suc k) = code_place f k + 2 + word f (code_place f k)

-- the code whose length stands at place p
abbrev pub code_in : List ℕ → ℕ → List ℕ
code_in f p = part f (p + 2) (word f p)

-- the code of core k
abbrev pub code_of : List ℕ → ℕ → List ℕ
code_of f k = code_in f (code_place f k)

-- a length and a code: length 1..8,192, presence, then the code itself
unfoldable pub section_refusal : Profile → List ℕ → ℕ → ℕ
section_refusal profile f p =
    next (present f (p + 2))
    (next (unless (within 1 8192 (word f p)) bad_instruction) (next (present f (p + 2 + word f p)) (judge_code_for profile (code_in f p))))

abbrev pub code_refusal : Profile → List ℕ → ℕ → ℕ
code_refusal profile f k = section_refusal profile f (code_place f k)

-- ---- start values (document 02, 2.12): in a file of the new form, for each core a count and then pairs of a data place and a byte

-- the cores whose start values stand in the file: all of them, or none in a file of the old form
abbrev pub start_sections : List ℕ → ℕ
start_sections f = pick (is_new f) (cores f) 0

-- where the count of core k stands; at `start_sections`, where the last section ends
unfoldable pub start_place : List ℕ → ℕ → ℕ
start_place f zero = code_place f (cores f)
start_place f (suc k) = start_place f k + 2 + 3 * word f (start_place f k)

-- where pair i stands after the count at p; its data place; its byte
abbrev pub pair_place : ℕ → ℕ → ℕ
pair_place p i = p + 2 + 3 * i

abbrev pub start_in : List ℕ → ℕ → ℕ → ℕ
start_in f p i = word f (pair_place p i)

abbrev pub start_byte_in : List ℕ → ℕ → ℕ → ℕ
start_byte_in f p i = byte f (pair_place p i + 2)

-- the least data place that pair i may have: places rise
unfoldable pub least_in : List ℕ → ℕ → ℕ → ℕ
least_in f p zero = 0
least_in f p (suc i) = start_in f p i + 1

-- a place within the data of this size, and above the one before
unfoldable pub pair_ok : List ℕ → ℕ → ℕ → ℕ → Bool
pair_ok f size p i = both (ltb (start_in f p i) size) (leb (least_in f p i) (start_in f p i))

unfoldable pub start_pair_refusal : List ℕ → ℕ → ℕ → ℕ → ℕ
start_pair_refusal f size p i = next (present f (pair_place p i + 3)) (unless (pair_ok f size p i) bad_start)

-- a count and its pairs
unfoldable pub pairs_refusal : List ℕ → ℕ → ℕ → ℕ
pairs_refusal f size p = next (present f (p + 2)) (first (start_pair_refusal f size p) (word f p - 0) 0)

abbrev pub start_refusal : List ℕ → ℕ → ℕ
start_refusal f k = pairs_refusal f (data_size f k) (start_place f k)

-- where the last section ends, and with it the file
abbrev pub file_end : List ℕ → ℕ
file_end f = start_place f (start_sections f)

-- the start values of each core, and then nothing follows (24, document 02, 2.2)
unfoldable pub starts_refusal : List ℕ → ℕ
starts_refusal f = next (first (start_refusal f) (start_sections f - 0) 0) (unless (eqb (file_end f) (length f)) left_over)

-- ---- the whole file

unfoldable pub codes_refusal : Profile → List ℕ → ℕ
codes_refusal profile f = next (first (code_refusal profile f) (cores f - 0) 0) (starts_refusal f)

unfoldable pub judge_for : Profile → List ℕ → ℕ
judge_for profile f = next (head_refusal profile f) (next (variables_refusal f) (codes_refusal profile f))

abbrev pub judge : List ℕ → ℕ
judge f = judge_for Full f
