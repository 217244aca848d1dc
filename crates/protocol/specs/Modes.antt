-- Document 01, "One step of a core": the modes of a core by name.
use Rattle.std.specs.Prelude.{ℕ}

abbrev pub between_cycles : ℕ
between_cycles = 0

abbrev pub reading_exchange : ℕ
reading_exchange = 1

abbrev pub executing : ℕ
executing = 2

abbrev pub waiting_to_write : ℕ
waiting_to_write = 3

abbrev pub writing_exchange : ℕ
writing_exchange = 4

abbrev pub stopped : ℕ
stopped = 5
