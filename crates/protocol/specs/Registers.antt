-- Document 01, "One step of a core": what each part of a step does to a core's registers and to its call stack.
-- In order: flags; exchanges; instructions; the call stack. Every field is written, so what a change leaves alone can be read off.
use Rattle.std.specs.Prelude.{ℕ, ◌+◌, ◌-◌, ◌*◌, ◌/◌, ◌%◌, ◌^◌, set}
use Rattle.protocol.specs.Modes.{between_cycles, reading_exchange, executing, waiting_to_write, writing_exchange, stopped}
use Rattle.protocol.specs.declared.Registers.{Registers}
use Rattle.protocol.specs.declared.Stack.{Stack}

-- ---- the flag byte

-- a lawful flag byte is below this: bit 7 alone is none
abbrev pub flag_bound : ℕ
flag_bound = 128

-- bit b on
unfoldable pub with_flag : ℕ → ℕ → ℕ
with_flag b f = f + 2 ^ b * (1 - f / 2 ^ b % 2)

-- the cold-start bit off
unfoldable pub warm : ℕ → ℕ
warm f = f - 4 * (f / 4 % 2)

-- ---- exchanges

-- mode 0 to 1, with the time of the input record; a taking sets the exchange number to 0
unfoldable pub read_acquired : ℕ → Registers → Registers
read_acquired time r = record {
  mode = reading_exchange;
  counter = r.counter;
  offset = r.offset;
  depth = r.depth;
  count = r.count;
  exchange = 0;
  cycles = r.cycles;
  flags = r.flags;
  time = time;
}

-- one byte more is copied, and bytes are left
unfoldable pub byte_copied : Registers → Registers
byte_copied r = record {
  mode = r.mode;
  counter = r.counter;
  offset = r.offset;
  depth = r.depth;
  count = r.count;
  exchange = r.exchange + 1;
  cycles = r.cycles;
  flags = r.flags;
  time = r.time;
}

-- mode 1 to 2
unfoldable pub read_released : Registers → Registers
read_released r = record { mode = executing; counter = 0; offset = 0; depth = 0; count = 0; exchange = 0; cycles = r.cycles; flags = r.flags; time = r.time }

-- mode 3 to 4
unfoldable pub write_acquired : Registers → Registers
write_acquired r = record {
  mode = writing_exchange;
  counter = r.counter;
  offset = r.offset;
  depth = r.depth;
  count = r.count;
  exchange = 0;
  cycles = r.cycles;
  flags = r.flags;
  time = r.time;
}

-- mode 4 to 0
unfoldable pub write_released : Registers → Registers
write_released r = record {
  mode = between_cycles;
  counter = r.counter;
  offset = r.offset;
  depth = r.depth;
  count = r.count;
  exchange = 0;
  cycles = r.cycles + 1;
  flags = warm r.flags;
  time = r.time;
}

-- ---- instructions: each counts, but for a fault

-- mode 2 goes on at a place
unfoldable pub advanced : ℕ → Registers → Registers
advanced place r = record {
  mode = r.mode;
  counter = place;
  offset = r.offset;
  depth = r.depth;
  count = r.count + 1;  -- one for each instruction
  exchange = r.exchange;
  cycles = r.cycles;
  flags = r.flags;
  time = r.time;
}

-- a call to a target, with a data offset
unfoldable pub called : ℕ → ℕ → Registers → Registers
called target offset r = record {
  mode = r.mode;
  counter = target;
  offset = offset;
  depth = r.depth + 1;
  count = r.count + 1;
  exchange = r.exchange;
  cycles = r.cycles;
  flags = r.flags;
  time = r.time;
}

-- RETURN from a call, to a place with a data offset
unfoldable pub returned : ℕ → ℕ → Registers → Registers
returned place offset r = record {
  mode = r.mode;
  counter = place;
  offset = offset;
  depth = r.depth - 1;
  count = r.count + 1;
  exchange = r.exchange;
  cycles = r.cycles;
  flags = r.flags;
  time = r.time;
}

-- RETURN at depth 0: mode 2 to 3, the program counter unmoved
unfoldable pub cycle_ended : Registers → Registers
cycle_ended r = record {
  mode = waiting_to_write;
  counter = r.counter;
  offset = r.offset;
  depth = r.depth;
  count = r.count + 1;
  exchange = r.exchange;
  cycles = r.cycles;
  flags = r.flags;
  time = r.time;
}

-- a fault sets flag bit b, goes to mode 5, and changes nothing else
unfoldable pub faulted : ℕ → Registers → Registers
faulted b r = record {
  mode = stopped;
  counter = r.counter;
  offset = r.offset;
  depth = r.depth;
  count = r.count;
  exchange = r.exchange;
  cycles = r.cycles;
  flags = with_flag b r.flags;
  time = r.time;
}

-- ---- the call stack: entry d is the one at depth d, from 0 on

unfoldable pub pushed : ℕ → ℕ → ℕ → Stack → Stack
pushed d place offset k = record { places = set k.places d place; offsets = set k.offsets d offset }

-- a freed entry becomes 0
unfoldable pub popped : ℕ → Stack → Stack
popped d k = record { places = set k.places d 0; offsets = set k.offsets d 0 }
