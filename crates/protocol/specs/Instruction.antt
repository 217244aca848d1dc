-- Document 01, mode 2: an instruction by its outcome. The limit is tried before all else, a fault sets one bit, goes to mode 5 and changes
-- nothing else, and every other instruction counts: each of these is said here once, whatever the command is.
use Rattle.std.specs.Prelude.{List, ℕ, zero, suc, eqb, get_or}
use Rattle.verdict.specs.Numbers.{limit_bit}
use Rattle.verdict.specs.Verdict.{pick}
use Rattle.protocol.specs.declared.Outcome.{Outcome}
use Rattle.protocol.specs.declared.Outcome.TheVariants.{Fault, Next, Call, Return}
use Rattle.protocol.specs.Registers.{advanced, called, returned, cycle_ended, faulted, pushed, popped}
use Rattle.protocol.specs.State.{Core}

-- What an instruction answers, and the data after it
pub record Executed : Type 0 where
  pub outcome : Outcome
  pub memory : List ℕ

-- RETURN, by the depth: the cycle's end, or back to the place and the data offset of the call, whose entry becomes 0
abbrev pub back_from : ℕ → List ℕ → Core → Core
back_from zero m c = record { registers = cycle_ended c.registers; stack = c.stack; memory = m }
back_from (suc d) m c = record {
  registers = returned (get_or c.stack.places d 0) (get_or c.stack.offsets d 0) c.registers;
  stack = popped d c.stack;
  memory = m;
}

-- core c after an outcome, with the data m
abbrev pub applied_by : Outcome → List ℕ → Core → Core
applied_by (Fault b) m c = record { registers = faulted b c.registers; stack = c.stack; memory = c.memory }
applied_by (Next p) m c = record { registers = advanced p c.registers; stack = c.stack; memory = m }
applied_by (Call next target offset) m c = record {
  registers = called target offset c.registers;
  stack = pushed c.registers.depth next c.registers.offset c.stack;
  memory = m;
}
applied_by Return m c = back_from c.registers.depth m c

unfoldable pub applied : Executed → Core → Core
applied x c = applied_by x.outcome x.memory c

-- a fault with flag bit b
abbrev pub halted : ℕ → List ℕ → Executed
halted b m = record { outcome = Fault b; memory = m }

-- flag bit 1 where the count has reached the limit, else what the instruction answers
unfoldable pub limited : ℕ → Executed → Core → Executed
limited limit x c = pick (eqb c.registers.count limit) (halted limit_bit c.memory) x

-- the instruction of a task, from each core's limit and from what an instruction of it answers
unfoldable pub instruction_by : (ℕ → ℕ) → (ℕ → Core → Executed) → ℕ → Core → Core
instruction_by limit execute k c = applied (limited (limit k) (execute k c) c) c
