-- What keeps a core's execution inside its code and its data: a state that doesn't have it is unfit, and every instruction keeps it.
use Rattle.std.specs.Prelude.{◌≡◌, true, List, ℕ, ◌≤◌, ◌<◌, length, get_or}
use Rattle.code.specs.Code.{is_start}
use Rattle.protocol.specs.declared.Registers.{Registers}
use Rattle.protocol.specs.declared.Stack.{Stack}
use Rattle.protocol.specs.declared.Outcome.{Outcome}
use Rattle.protocol.specs.declared.Outcome.TheVariants.{Fault, Next, Call, Return}

-- A core with the code c and this data size: program counter and return places start instructions, offsets lie below the data size, at most
-- sixteen calls are open, and an entry from the depth on is 0
pub record Placed (c : List ℕ) (size : ℕ) (r : Registers) (k : Stack) : Type 0 where
  pub counter : is_start c r.counter ≡ true
  pub offset : r.offset < size
  pub depth : r.depth ≤ 16
  pub places : (i : ℕ) → is_start c (get_or k.places i 0) ≡ true
  pub offsets : (i : ℕ) → get_or k.offsets i 0 < size
  pub freed : (i : ℕ) → r.depth ≤ i → (get_or k.places i 0 ≡ 0) × (get_or k.offsets i 0 ≡ 0)
  pub sixteen : (length k.places ≡ 16) × (length k.offsets ≡ 16)

-- What applying an outcome asks: from a core with this data size and depth, control goes to starts of instructions, a call's data offset
-- lies below the data size and a stack entry is free for it, and a fault is one of the flag bits
abbrev pub Leads : List ℕ → ℕ → ℕ → Outcome → Type 0
Leads c size depth (Fault b) = b < 8
Leads c size depth (Next place) = is_start c place ≡ true
Leads c size depth (Call next target offset) = (is_start c next ≡ true) × (is_start c target ≡ true) × (offset < size) × (depth < 16)
Leads c size depth Return = Unit {0}
