-- The instructions of crate processor keep what a fit state asks of a core in mode 2. In order: fault bits; the three facts.
-- Assumes nothing.
use mathlib.Core.Path.{◌≡◌, refl, ◌∙◌}
use mathlib.Core.Logic.{inl, inr}
use mathlib.Core.List.{List}
use Prim.Native.Nat.{ℕ, ◌<◌}
use native.Mathlib.Omega.{arith}
use lib.Dec.{eqb}
use lib.ListN.{length}
use Rattle.verdict.proofs.Verdict.{by-pick}
use Rattle.protocol.specs.declared.Registers.{Registers}
use Rattle.protocol.specs.declared.Outcome.TheVariants.{Call}
use Rattle.protocol.specs.State.{Core}
use Rattle.protocol.specs.Instruction.{Executed, halted, instruction_by}
use Rattle.code.specs.Commands.{Kind, Returns, Jumps, Branches, Calls, Passes}
use Rattle.code.specs.Flow.{kind_at}
use Rattle.code.specs.Instructions.{instruction_at}
use Rattle.processor.specs.Placed.{Placed}
use Rattle.processor.specs.Processor.{Decided, refused, decided, answer, controlled, executed}
use Rattle.processor.proofs.Kept.{DataFault, data-faults, instruction-laws, placed-kept}
use Rattle.records.specs.File.{cores, data_size, limit}
use Rattle.taskset.specs.Judge.{code_of}
use Rattle.states.specs.Set.{AcceptedSet}
use Rattle.states.specs.Task.{task_of}
use Rattle.states.proofs.Kept.{Bits, Executes}

-- ---- fault bits

fault-lawful : {b : ℕ} → DataFault b → b < 7
fault-lawful (inl e) = omega arith
fault-lawful (inr (inl e)) = omega arith
fault-lawful (inr (inr (inl e))) = omega arith
fault-lawful (inr (inr (inr e))) = omega arith

-- where the data part's faults are its own, an instruction's are the lawful ones
controlled-bits : (k : Kind) (next target depth : ℕ) (d : List ℕ) (x : Decided) → ((b : ℕ) → x ≡ refused b → DataFault b)
    → Bits (controlled k next target depth d x).outcome
controlled-bits Returns next target depth d x h = tt
controlled-bits Jumps next target depth d x h = tt
controlled-bits Branches next target depth d (refused b) h = fault-lawful (h b refl)
controlled-bits Branches next target depth d (decided made offset m) h = tt
controlled-bits Calls next target depth d (refused b) h =
    by-pick (λ (y : Executed). Bits y.outcome) (eqb depth 16) (halted 5 d) (halted b d) (λ e. omega arith) (λ e. fault-lawful (h b refl))
controlled-bits Calls next target depth d (decided made offset m) h =
    by-pick (λ (y : Executed). Bits y.outcome) (eqb depth 16) (halted 5 d) (answer (Call next target offset) d) (λ e. omega arith) (λ e. tt)
controlled-bits Passes next target depth d (refused b) h = fault-lawful (h b refl)
controlled-bits Passes next target depth d (decided made offset m) h = tt

executed-bits : (c : List ℕ) (r : Registers) (d : List ℕ) → Bits (executed c r d).outcome
unfolding executed
executed-bits c r d = controlled-bits (kind_at c r.counter) _ _ _ d _ (data-faults r d (instruction_at c r.counter) c)

-- ---- the three facts

instruction-placed : (f t : List ℕ) → AcceptedSet f t → (k : ℕ) → k < cores f → (c : Core) → length c.memory ≡ data_size f k
    → Placed (code_of f k) (data_size f k) c.registers c.stack
    → Placed (code_of f k) (data_size f k) ((task_of f t).instruction k c).registers ((task_of f t).instruction k c).stack
unfolding task_of instruction_by
instruction-placed f t ok k h c e p =
    let q = placed-kept (code_of f k) (limit f k) c (ok.code k h) (rw e p) in
    rw (q.size ∙ e) at q.placed

pub executes : (f t : List ℕ) → AcceptedSet f t → Executes f t
unfolding task_of
executes f t ok =
    record {
      placed = λ k h c m e p. instruction-placed f t ok k h c e p;
      bits = λ k c. executed-bits (code_of f k) c.registers c.memory;
      laws = instruction-laws (task_of f t) (code_of f) refl;
    }
