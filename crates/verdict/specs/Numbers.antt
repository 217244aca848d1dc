-- The numbers of documents 01 and 02 by name. In order: refusals; the bits of a core's flag byte. Not here: modes (crate protocol), code bytes (crate code).
use Rattle.std.specs.Prelude.{ℕ}

-- ---- refusals of a file

abbrev pub cut_file : ℕ
cut_file = 1

abbrev pub no_mark : ℕ
no_mark = 2

abbrev pub bad_core : ℕ
bad_core = 3

abbrev pub bad_variable : ℕ
bad_variable = 4

abbrev pub overlapping : ℕ
overlapping = 5

abbrev pub bad_instruction : ℕ
bad_instruction = 6

abbrev pub bad_target : ℕ
bad_target = 7

-- bytes follow the file's last section (2.2)
abbrev pub left_over : ℕ
left_over = 24

-- a type that the small profile does not carry (2.10)
abbrev pub wide_type_code : ℕ
wide_type_code = 27

-- a start value's place (2.12)
abbrev pub bad_start : ℕ
bad_start = 31

-- ---- refusals of a call

abbrev pub no_such_core : ℕ
no_such_core = 20

-- lent memory
abbrev pub bad_lengths : ℕ
bad_lengths = 21

abbrev pub bad_trace : ℕ
bad_trace = 22

abbrev pub unfit_state : ℕ
unfit_state = 23

-- a target not above its own instruction, a count over 65,535 (2.7)
abbrev pub not_above : ℕ
not_above = 25

abbrev pub over_count : ℕ
over_count = 26

-- the span, the places for answers, the run (2.11)
abbrev pub bad_span : ℕ
bad_span = 28

abbrev pub few_places : ℕ
few_places = 29

abbrev pub bad_run : ℕ
bad_run = 30

-- start values in a file that goes back (2.12)
abbrev pub has_starts : ℕ
has_starts = 32

-- no order of steps produces the list (2.13)
abbrev pub not_produced : ℕ
not_produced = 33

-- a window that leaves the core's code or data (2.14)
abbrev pub outside_window : ℕ
outside_window = 34

-- ---- the flag byte: an array index, the instruction limit, the cold start, a zero divisor, an address beyond the data, a seventeenth nested call, a
-- conversion whose result the destination can't hold (2.3)

abbrev pub index_bit : ℕ
index_bit = 0

abbrev pub limit_bit : ℕ
limit_bit = 1

abbrev pub cold_start_bit : ℕ
cold_start_bit = 2

abbrev pub divisor_bit : ℕ
divisor_bit = 3

abbrev pub address_bit : ℕ
address_bit = 4

abbrev pub call_bit : ℕ
call_bit = 5

abbrev pub conversion_bit : ℕ
conversion_bit = 6
