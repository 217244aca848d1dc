-- What a step of an exchange makes of the parts of a run, by its answer: registers, line, cursor. In order: each of them.
-- Not here: the data and shared memory, and what all parts make together (Effects).
use Rattle.std.specs.Prelude.{◌≡◌, true, false, List, ℕ, ◌+◌, ◌<◌, length}
use Rattle.protocol.specs.declared.Registers.{Registers}
use Rattle.protocol.specs.State.{Core, Semaphore}
use Rattle.protocol.specs.Step.{in_line, turn}
use Rattle.exchange.specs.declared.Cursor.{Cursor}
use Rattle.exchange.specs.Exchange.{At}
use Rattle.steps.specs.declared.Exchange.{Exchange}
use Rattle.steps.specs.declared.Exchange.TheVariants.{Rests, Joins, ReadBegun, ReadOn, ReadEnded, WriteBegun, WriteOn, WriteEnded}
use Rattle.steps.specs.Effects.{exchanged, registers_by}

-- the registers of a core that had the registers r
abbrev pub RegistersAfter : Exchange → Registers → Registers → Type 0
RegistersAfter z r r' = (c : Core) → c.registers ≡ r → r' ≡ registers_by (exchanged z) c

-- the line can take it: who joins is not in it and finds an entry, and the semaphore is taken in the core's turn
abbrev pub LineTakes : Semaphore → ℕ → Exchange → Type 0
LineTakes h k Rests = Unit {0}
LineTakes h k Joins = (in_line k h.line ≡ false) × (length h.line < 4)
LineTakes h k (ReadBegun time) = turn h k ≡ true
LineTakes h k (ReadOn next) = Unit {0}
LineTakes h k ReadEnded = Unit {0}
LineTakes h k WriteBegun = turn h k ≡ true
LineTakes h k (WriteOn next) = Unit {0}
LineTakes h k WriteEnded = Unit {0}

-- the cursor: at the first byte of an exchange that begins, at the next one after a byte
abbrev pub CursorAfter : List ℕ → ℕ → Cursor → Exchange → Cursor → Type 0
CursorAfter f k cursor Rests x = x ≡ cursor
CursorAfter f k cursor Joins x = x ≡ cursor
CursorAfter f k cursor (ReadBegun time) x = At f (4 + k) 0 x
CursorAfter f k cursor (ReadOn next) x = x ≡ next
CursorAfter f k cursor ReadEnded x = x ≡ cursor
CursorAfter f k cursor WriteBegun x = At f k 0 x
CursorAfter f k cursor (WriteOn next) x = x ≡ next
CursorAfter f k cursor WriteEnded x = x ≡ cursor
