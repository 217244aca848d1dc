-- Task set files byte by byte, with traces and orders of steps. In order: document 01's listing; three cores in a ring; the same ring, open.
-- Not here: what is shown of them (specs/Shown).
use Rattle.std.specs.Prelude.{List, [], ◌∷◌, ◌++◌, ℕ, replicate}

-- 4D 43 53 31 hex, and what follows
abbrev with_mark : List ℕ → List ℕ
with_mark rest = 77 ∷ 67 ∷ 83 ∷ 49 ∷ rest

-- a core's record: data size, no input bytes, instruction limit
abbrev core_record : ℕ → ℕ → List ℕ
core_record size limit = size ∷ 0 ∷ 0 ∷ 0 ∷ limit ∷ 0 ∷ []

-- a core's trace: one record of four time bytes
abbrev one_record : List ℕ
one_record = 1 ∷ 0 ∷ 0 ∷ 0 ∷ 0 ∷ 0 ∷ []

-- ---- document 01's listing: one core with one byte of data, no variable, and RETURN

unfoldable pub listing_file : List ℕ
listing_file = with_mark (1 ∷ core_record 1 1 ++ (0 ∷ 1 ∷ 0 ∷ 0 ∷ []))

unfoldable pub listing_trace : List ℕ
listing_trace = one_record

unfoldable pub listing_steps : List ℕ
listing_steps = 0 ∷ 0 ∷ 0 ∷ 0 ∷ 0 ∷ []

-- ---- three cores: what a core reads stands at its place 0, what it writes at its place 1

-- seven bytes: NOT BOOL from place 0 to place 1; RETURN
abbrev not_code : List ℕ
not_code = 7 ∷ 0 ∷ 27 ∷ 0 ∷ 1 ∷ 0 ∷ 0 ∷ 0 ∷ 0 ∷ []

-- a variable of one byte at a shared place, with its attribute byte and its local places
abbrev variable_record : ℕ → ℕ → ℕ → ℕ → ℕ → List ℕ
variable_record place attribute a b c = place ∷ 0 ∷ 1 ∷ attribute ∷ a ∷ 0 ∷ b ∷ 0 ∷ c ∷ 0 ∷ 0 ∷ 0 ∷ []

-- WRITE by core 0 and READ by core 1; by 1 and 2; by 2 and 0
abbrev from0 : List ℕ
from0 = variable_record 0 33 1 0 0

abbrev from1 : List ℕ
from1 = variable_record 1 66 0 1 0

abbrev from2 : List ℕ
from2 = variable_record 2 20 0 0 1

-- three cores with n variables; each writes NOT of what it reads
abbrev three_cores : ℕ → List ℕ → List ℕ
three_cores n records =
    with_mark (3 ∷ core_record 2 2 ++ (core_record 2 2 ++ (core_record 2 2 ++ (n ∷ records ++ (not_code ++ (not_code ++ not_code))))))

-- the ring: each core reads what the one before it writes
unfoldable pub ring_file : List ℕ
ring_file = three_cores 3 (from0 ++ (from1 ++ from2))

-- the ring, open: core 0 reads nothing
unfoldable pub open_file : List ℕ
open_file = three_cores 2 (from0 ++ from1)

-- one cycle for each core
unfoldable pub ring_trace : List ℕ
ring_trace = one_record ++ (one_record ++ one_record)

-- all read, all execute, all write
unfoldable pub ring_steps : List ℕ
ring_steps = 0 ∷ 0 ∷ 1 ∷ 1 ∷ 2 ∷ 2 ∷ 0 ∷ 0 ∷ 1 ∷ 1 ∷ 2 ∷ 2 ∷ 0 ∷ 0 ∷ 1 ∷ 1 ∷ 2 ∷ 2 ∷ []

-- a cycle of core 2, then one of core 1, then one of core 0
unfoldable pub open_steps : List ℕ
open_steps = replicate 6 2 ++ (replicate 6 1 ++ replicate 6 0)
