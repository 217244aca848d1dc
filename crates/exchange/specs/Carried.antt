-- A stretch of bytes of an exchange, in either direction: what a side of it is, and what the copy leaves.
use Rattle.std.specs.Prelude.{◌≡◌, true, List, ℕ, ◌+◌, ◌≤◌, ◌<◌, take, drop}
use Rattle.memory.specs.Memory.{byte, word}
use Rattle.protocol.specs.Step.{copy}
use Rattle.protocol.specs.Variables.{Variable, moves_of}
use Rattle.records.specs.File.{variables, record_place, variable_in}
use Rattle.taskset.specs.Task.{variables_of}
use Rattle.exchange.specs.Exchange.{has_bit}
use Rattle.exchange.specs.Laid.{takes_part, RecordAt}

-- ---- a side: shared memory, or the data of a core

-- the bytes of every variable that the exchange of this bit names lie within n bytes; its record has at `offset` where they begin
abbrev pub Lies : List ℕ → ℕ → ℕ → ℕ → Type 0
Lies f bit offset n = (p : ℕ) → RecordAt f p → p < record_place f (variables f) → takes_part f bit p ≡ true → word f (p + offset) + byte f (p + 2) ≤ n

-- what every record has at `offset` is this of its variable
abbrev pub Tells : List ℕ → ℕ → (Variable → ℕ) → Type 0
Tells f offset begin = (p : ℕ) → begin (variable_in f p) ≡ word f (p + offset)

-- ---- the copy of `count` bytes from number x on

abbrev pub BytesCarried : List ℕ → ℕ → ℕ → ℕ → ℕ → ℕ → List ℕ → List ℕ → List ℕ → Type 0
BytesCarried f bit source target x count src dst dst' =
    (from to : Variable → ℕ) → Tells f source from → Tells f target to → dst' ≡ copy (take count (drop x (moves_of (has_bit bit) from to (variables_of f)))) src dst

-- ---- the copy of all its bytes

abbrev pub AllCarried : List ℕ → ℕ → ℕ → ℕ → List ℕ → List ℕ → List ℕ → Type 0
AllCarried f bit source target src dst dst' =
    (from to : Variable → ℕ) → Tells f source from → Tells f target to → dst' ≡ copy (moves_of (has_bit bit) from to (variables_of f)) src dst
