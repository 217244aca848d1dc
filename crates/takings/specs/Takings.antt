-- A byte of an order list, as the code tells it: the core that it names, and whether that has it to do. Not here: what a list means (crate protocol, specs/Rerun).
use Rattle.std.specs.Prelude.{Bool, ℕ, ◌-◌, eqb, ltb}
use Rattle.verdict.specs.Verdict.{pick, both}
use Rattle.protocol.specs.Modes.{between_cycles, waiting_to_write}
use Rattle.protocol.specs.declared.Registers.{Registers}

-- the core that it names
abbrev pub named_core : ℕ → ℕ
named_core b = pick (ltb b 16) b (b - 16)

-- a core with these registers and so many records has it to do: a reading in mode 0 with records left, a writing in mode 3
abbrev pub due_by : ℕ → Registers → ℕ → Bool
due_by b r count = pick (ltb b 16) (both (eqb r.mode between_cycles) (ltb r.cycles count)) (eqb r.mode waiting_to_write)
