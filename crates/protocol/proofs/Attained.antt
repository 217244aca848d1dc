-- The bound of `Fair` is attained for two, three and four cores: core 0 takes the semaphore, the others join one after another, and the last of them sees an
-- exchange of each other core end before its turn. The cores have no variables and no input bytes, so that an exchange is a taking and its release.
-- Assumes nothing.
use mathlib.Core.Path.{refl}
use mathlib.Core.List.{[], ◌∷◌}
use Prim.Native.Nat.{ℕ}
use Rattle.verdict.specs.Verdict.{pick}
use Rattle.memory.specs.Memory.{splice}
use Rattle.protocol.specs.declared.Outcome.TheVariants.{Return}
use Rattle.protocol.specs.Registers.{read_acquired, read_released}
use Rattle.protocol.specs.State.{Core, Task}
use Rattle.protocol.specs.Step.{read_taken, read_done, step}
use Rattle.protocol.specs.Instruction.{Executed, instruction_by}
use Rattle.protocol.specs.Fresh.{fresh_zero}
use Rattle.protocol.specs.Laws.{Laws}
use Rattle.protocol.specs.Fair.{Attained}
use Rattle.protocol.proofs.Instance.{obeys, zero_is}

-- every core has one record, and returns at once
answer : ℕ → Core → Executed
answer k c = record { outcome = Return; memory = c.memory }

task : Task
task = record { samples = λ k. record { time = 0; input = [] } ∷ []; reads = λ k. []; writes = λ k. []; limit = λ k. 1; instruction = instruction_by (λ k. 1) answer }

lawful : Laws task
unfolding answer task
lawful = obeys task answer (λ k c m n. refl) refl

pub record AttainedBy : Type 0 where
  pub two : Attained 2
  pub three : Attained 3
  pub four : Attained 4

pub attained : AttainedBy
unfolding answer task step read_taken read_done read_acquired read_released splice pick
attained = record {
  two = record {
    task = task;
    start = fresh_zero (1 ∷ 1 ∷ []);
    lawful = lawful;
    fresh = zero_is (1 ∷ 1 ∷ []);
    table = refl;
    order = 0 ∷ 1 ∷ 0 ∷ [];
    core-in-line = 1;
    joins = record { before = 0 ∷ []; after = 0 ∷ []; split = refl; was-out = refl; is-in = refl };
    ends = refl;
  };
  three = record {
    task = task;
    start = fresh_zero (1 ∷ 1 ∷ 1 ∷ []);
    lawful = lawful;
    fresh = zero_is (1 ∷ 1 ∷ 1 ∷ []);
    table = refl;
    order = 0 ∷ 1 ∷ 2 ∷ 0 ∷ 1 ∷ 1 ∷ [];
    core-in-line = 2;
    joins = record { before = 0 ∷ 1 ∷ []; after = 0 ∷ 1 ∷ 1 ∷ []; split = refl; was-out = refl; is-in = refl };
    ends = refl;
  };
  four = record {
    task = task;
    start = fresh_zero (1 ∷ 1 ∷ 1 ∷ 1 ∷ []);
    lawful = lawful;
    fresh = zero_is (1 ∷ 1 ∷ 1 ∷ 1 ∷ []);
    table = refl;
    order = 0 ∷ 1 ∷ 2 ∷ 3 ∷ 0 ∷ 1 ∷ 1 ∷ 2 ∷ 2 ∷ [];
    core-in-line = 3;
    joins = record { before = 0 ∷ 1 ∷ 2 ∷ []; after = 0 ∷ 1 ∷ 1 ∷ 2 ∷ 2 ∷ []; split = refl; was-out = refl; is-in = refl };
    ends = refl;
  };
}
