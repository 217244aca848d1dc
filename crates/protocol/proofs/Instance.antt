-- An instruction by its outcome obeys the laws, if an answer that is no fault keeps the length of the data; and the fresh state is fresh.
-- Assumes nothing.
use mathlib.Core.Path.{◌≡◌, refl}
use mathlib.Core.Logic.{◌≢◌, ◌⊎◌, inl, inr}
use mathlib.Core.List.{List, [], ◌∷◌, map}
use Prim.Native.Nat.{ℕ, zero, suc, ◌+◌, ◌≤◌}
use native.Mathlib.Omega.{arith}
use borrow.Author.Tests.{eq-eqb}
use lib.Dec.{eqb}
use lib.ListN.{length, get_or}
use Rattle.verdict.proofs.Verdict.{by-pick, pick_true}
use Rattle.protocol.specs.declared.Outcome.{Outcome}
use Rattle.protocol.specs.declared.Outcome.TheVariants.{Fault, Next, Call, Return}
use Rattle.protocol.specs.Registers.{advanced, called, returned, cycle_ended, faulted}
use Rattle.protocol.specs.State.{Core, Task, absent, mode}
use Rattle.protocol.specs.Instruction.{Executed, back_from, applied_by, applied, halted, limited, instruction_by}
use Rattle.protocol.specs.Laws.{Laws, FreshStart}
use Rattle.protocol.specs.Fresh.{fresh_core, fresh, zeros, fresh_zero}

-- ---- the one duty of an instruction

abbrev pub NoFault : Outcome → Type 0
NoFault (Fault b) = ⊥
NoFault (Next p) = Unit {0}
NoFault (Call next target offset) = Unit {0}
NoFault Return = Unit {0}

abbrev pub KeepsLength : Core → Executed → Type 0
KeepsLength c x = NoFault x.outcome → length x.memory ≡ length c.memory

-- ---- what an outcome does to a core in mode 2

record Lawful (c c' : Core) : Type 0 where
  modes : (mode c' ≢ 0) × (mode c' ≢ 1) × (mode c' ≢ 4) × (mode c' ≤ 5)
  cycles : c'.registers.cycles ≡ c.registers.cycles
  counted : mode c' ≡ 2 → c'.registers.count ≡ c.registers.count + 1

lawful-back : (d : ℕ) (m : List ℕ) (c : Core) → mode c ≡ 2 → Lawful c (back_from d m c)
unfolding cycle_ended returned
lawful-back zero m c e = record { modes = omega arith; cycles = refl; counted = λ f. refl }
lawful-back (suc d) m c e = record { modes = omega arith; cycles = refl; counted = λ f. refl }

lawful : (o : Outcome) (m : List ℕ) (c : Core) → mode c ≡ 2 → Lawful c (applied_by o m c)
unfolding faulted advanced called
lawful (Fault b) m c e = record { modes = omega arith; cycles = refl; counted = λ f. omega arith }
lawful (Next p) m c e = record { modes = omega arith; cycles = refl; counted = λ f. refl }
lawful (Call next target offset) m c e = record { modes = omega arith; cycles = refl; counted = λ f. refl }
lawful Return m c e = lawful-back c.registers.depth m c e

keeps-back : (d : ℕ) (m : List ℕ) (c : Core) → length m ≡ length c.memory → length (back_from d m c).memory ≡ length c.memory
keeps-back zero m c h = h
keeps-back (suc d) m c h = h

keeps-length : (o : Outcome) (m : List ℕ) (c : Core) → (NoFault o → length m ≡ length c.memory) → length (applied_by o m c).memory ≡ length c.memory
keeps-length (Fault b) m c h = refl
keeps-length (Next p) m c h = h tt
keeps-length (Call next target offset) m c h = h tt
keeps-length Return m c h = keeps-back c.registers.depth m c (h tt)

-- the limit's own fault keeps the data
keeps-limited : (limit : ℕ) (x : Executed) (c : Core) → KeepsLength c x → KeepsLength c (limited limit x c)
unfolding limited
keeps-limited limit x c h = by-pick (KeepsLength c) (eqb c.registers.count limit) (halted 1 c.memory) x (λ e n. refl) (λ e. h)

-- at the limit the core stops
stops : (limit : ℕ) (x : Executed) (c : Core) → c.registers.count ≡ limit → mode (applied (limited limit x c) c) ≡ 5
unfolding applied limited faulted
stops limit x c e = rw (pick_true (eqb c.registers.count limit) (halted 1 c.memory) x (eq-eqb c.registers.count limit e))

pub obeys : (t : Task) (execute : ℕ → Core → Executed) → ((k : ℕ) (c : Core) → mode c ≡ 2 → KeepsLength c (execute k c))
    → t.instruction ≡ instruction_by t.limit execute → Laws t
unfolding instruction_by applied
obeys t execute h e = rw e record {
  no-idle = λ k c m. (one k c m).modes.0;
  no_read = λ k c m. (one k c m).modes.1;
  no_write = λ k c m. (one k c m).modes.2;
  modes = λ k c m. (one k c m).modes.3;
  keeps = λ k c m. keeps-length (answer k c).outcome (answer k c).memory c (keeps-limited (t.limit k) (execute k c) c (h k c m));
  cycles = λ k c m. (one k c m).cycles;
  counted = λ k c m. (one k c m).counted;
  limited = λ k c m f g. omega (arith, stops (t.limit k) (execute k c) c g, f);
}
  where
    answer : ℕ → Core → Executed
    answer k c = limited (t.limit k) (execute k c) c

    one : (k : ℕ) (c : Core) → mode c ≡ 2 → Lawful c (applied_by (answer k c).outcome (answer k c).memory c)
    one k c m = lawful (answer k c).outcome (answer k c).memory c m

-- ---- the fresh state

between : (memories : List (List ℕ)) (k : ℕ) → (mode (get_or (map fresh_core memories) k absent) ≡ 0) ⊎ (mode (get_or (map fresh_core memories) k absent) ≡ 5)
between [] k = inr refl
between (m ∷ ms) zero = inl refl
between (m ∷ ms) (suc k) = between ms k

-- whatever its memories hold
pub fresh-is : (memories : List (List ℕ)) (shared : List ℕ) → FreshStart (fresh memories shared)
fresh-is memories shared = record { free = refl; between = between memories; empty = refl }

pub zero_is : (sizes : List ℕ) → FreshStart (fresh_zero sizes)
zero_is sizes = fresh-is (map zeros sizes) (zeros 1024)
