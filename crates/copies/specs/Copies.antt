-- MEMCP's copy as a call, for the benchmark of its ways: what it answers and what it leaves, for every input.
use Rattle.std.specs.Prelude.{ℕ, ◌+◌, Bool, List, length, leb}
use Rattle.verdict.specs.Verdict.{pick, both}
use Rattle.memory.specs.Memory.{splice, part}

-- two stretches of n bytes lie within data of this size, which are 4,096 bytes at most
unfoldable pub copy_fits : ℕ → ℕ → ℕ → ℕ → Bool
copy_fits size to from n = both (leb n 4096) (both (leb (to + n) size) (leb (from + n) size))

-- 0 for a copy, 1 for none
unfoldable pub copy_answer : ℕ → ℕ → ℕ → ℕ → ℕ
copy_answer size to from n = pick (copy_fits size to from n) 0 1

-- the data afterwards, as if all bytes were read before the first is written
unfoldable pub copied : List ℕ → ℕ → ℕ → ℕ → List ℕ
copied d to from n = pick (copy_fits (length d) to from n) (splice d to (part d from n)) d
