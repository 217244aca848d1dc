-- `memory::store` meets its contract. The invariant: the bytes written and those left to write are the number's. Assumes nothing.
use Rattle.std.proofs.Common.{◌≡◌, ◌-◌, ◌++◌, length, take}
use Rattle.memory.specs.Memory.{bytes_le}
use Rattle.memory.proofs.store.Given as goal

abbrev pub invariant-loop-b : goal.invariant-loop-b
invariant-loop-b l = (length l.b-items ≡ l.width) × (take l.b-index l.b-items ++ bytes_le (l.width - l.b-index) l.rest ≡ bytes_le l.width l.value)
