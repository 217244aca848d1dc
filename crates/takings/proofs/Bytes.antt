-- A byte of the list, a case at a time: the core that it names; whether that has it to do. Assumes nothing.
use mathlib.Core.Path.{◌≡◌}
use mathlib.Core.Logic.{◌≢◌}
use mathlib.Core.Bool.{false}
use Prim.Native.Nat.{ℕ, ◌-◌, ◌≤◌, ◌<◌}
use borrow.Author.Tests.{lt-ltb, le-ltb, eq-eqb, ne_eqb}
use lib.Dec.{ltb, eqb}
use Rattle.verdict.specs.Verdict.{pick}
use Rattle.protocol.specs.declared.Registers.{Registers}
use Rattle.takings.specs.Takings.{named_core, due_by}

pub reading-core : (b : ℕ) → b < 16 → b ≡ named_core b
unfolding pick
reading-core b h = rw (lt-ltb b 16 h)

pub writing-core : (b : ℕ) → 16 ≤ b → b - 16 ≡ named_core b
unfolding pick
writing-core b h = rw (le-ltb b 16 h)

pub reading-off : (b : ℕ) (r : Registers) (count : ℕ) → b < 16 → r.mode ≢ 0 → false ≡ due_by b r count
unfolding pick
reading-off b r count h n = rw (lt-ltb b 16 h, ne_eqb r.mode 0 n)

pub reading-due : (b : ℕ) (r : Registers) (count : ℕ) → b < 16 → r.mode ≡ 0 → ltb r.cycles count ≡ due_by b r count
unfolding pick
reading-due b r count h e = rw (lt-ltb b 16 h, eq-eqb r.mode 0 e)

pub writing-due : (b : ℕ) (r : Registers) (count : ℕ) → 16 ≤ b → eqb r.mode 3 ≡ due_by b r count
unfolding pick
writing-due b r count h = rw (le-ltb b 16 h)
