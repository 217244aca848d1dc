-- Document 01, "The task set file": the rules of a core's record (refusal 3), of a variable's record (4), and of two variables (5).
use Rattle.std.specs.Prelude.{ℕ, ◌+◌, ◌-◌, ◌/◌, ◌%◌, ◌^◌, List, Bool, false, ltb, leb, eqb, length}
use Rattle.verdict.specs.Numbers.{cut_file, bad_core, bad_variable, overlapping}
use Rattle.verdict.specs.Verdict.{pick, both, either, within, next, unless, first}
use Rattle.protocol.specs.Variables.{Variable, local, reads_it, writes_it}
use Rattle.code.specs.declared.Profile.{Profile}
use Rattle.code.specs.Profiles.{most_data}
use Rattle.code.specs.Code.{is_width}
use Rattle.records.specs.File.{cores, core_place, data_size, input_size, limit, variables, record_place, variable_at}

-- presence of an item: the file has n bytes at least
abbrev pub present : List ℕ → ℕ → ℕ
present f n = unless (leb n (length f)) cut_file

-- ---- cores

-- data size 1..4,096, or 1..1,024 under the small profile; input size at most the data size; limit at least 1
unfoldable pub core_ok : Profile → List ℕ → ℕ → Bool
core_ok profile f k = both (within 1 (most_data profile) (data_size f k)) (both (leb (input_size f k) (data_size f k)) (leb 1 (limit f k)))

unfoldable pub core_refusal : Profile → List ℕ → ℕ → ℕ
core_refusal profile f k = next (present f (core_place k + 6)) (unless (core_ok profile f k) bad_core)

-- ---- one variable

abbrev pub bit : ℕ → ℕ → ℕ
bit a k = a / 2 ^ k % 2

-- the write half of the attribute byte has exactly one bit set
unfoldable pub has_one_writer : ℕ → Bool
has_one_writer a = eqb (bit a 0 + bit a 1 + bit a 2 + bit a 3) 1

abbrev pub used_by : ℕ → Variable → Bool
used_by k v = either (reads_it k v) (writes_it k v)

-- a named core is one of the file's; the variable's place is past its input bytes and within its data
unfoldable pub place_ok : List ℕ → Variable → ℕ → Bool
place_ok f v k = both (ltb k (cores f)) (both (leb (input_size f k) (local k v)) (leb (local k v + v.width) (data_size f k)))

-- the part of core k: it does not read and write, its place is right where it does one of the two, and 0 where it does neither
unfoldable pub part_ok : List ℕ → Variable → ℕ → Bool
part_ok f v k =
    pick (reads_it k v) (pick (writes_it k v) false (place_ok f v k)) (pick (writes_it k v) (place_ok f v k) (eqb (local k v) 0))

unfoldable pub parts_ok : List ℕ → Variable → Bool
parts_ok f v = both (part_ok f v 0) (both (part_ok f v 1) (both (part_ok f v 2) (part_ok f v 3)))

unfoldable pub variable_ok : List ℕ → Variable → Bool
variable_ok f v =
    both (is_width v.width) (both (has_one_writer v.attribute) (both (leb (v.place + v.width) 1024) (parts_ok f v)))

unfoldable pub variable_refusal : List ℕ → ℕ → ℕ
variable_refusal f i = next (present f (record_place f i + 12)) (unless (variable_ok f (variable_at f i)) bad_variable)

-- ---- two variables

-- a bytes from x on and b bytes from y on have one in common
unfoldable pub meets : ℕ → ℕ → ℕ → ℕ → Bool
meets x a y b = both (ltb x (y + b)) (ltb y (x + a))

-- in shared memory
unfoldable pub meets_shared : Variable → Variable → Bool
meets_shared v u = meets v.place v.width u.place u.width

-- in the data of core k, if both name it
unfoldable pub meets_in : ℕ → Variable → Variable → Bool
meets_in k v u = both (used_by k v) (both (used_by k u) (meets (local k v) v.width (local k u) u.width))

unfoldable pub overlap : Variable → Variable → Bool
overlap v u =
    either (meets_shared v u) (either (meets_in 0 v u) (either (meets_in 1 v u) (either (meets_in 2 v u) (meets_in 3 v u))))

unfoldable pub pair_refusal : List ℕ → ℕ → ℕ → ℕ
pair_refusal f i j = pick (overlap (variable_at f i) (variable_at f j)) overlapping 0

-- variable i against each after it
unfoldable pub overlap_refusal : List ℕ → ℕ → ℕ
overlap_refusal f i = first (pair_refusal f i) (variables f - (i + 1)) (i + 1)
