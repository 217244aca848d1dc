-- A small task set, and runs of it by computation, from the definitions alone.
-- Core 0 measures: four input bytes, a temperature and a flow of two bytes each, which its program copies to the places of two variables and
-- its exchange publishes. Core 1 records: its exchange reads both variables. In order: the task set; lists of steps; what they come to; a
-- finished reading; two orders. Assumes nothing.
use mathlib.Core.Path.{◌≡◌, refl, ap}
use mathlib.Core.Logic.{◌≢◌, inl, inr}
use mathlib.Core.List.{List, [], ◌∷◌, ◌++◌}
use mathlib.Core.Option.{none, some}
use Prim.Native.Nat.{ℕ, zero, suc}
use native.Mathlib.Omega.{arith}
use lib.Dec.{eqb}
use lib.ListN.{take, replicate}
use Rattle.verdict.specs.Verdict.{pick, both}
use Rattle.memory.specs.Memory.{splice, byte}
use Rattle.protocol.specs.declared.Outcome.TheVariants.{Next, Return}
use Rattle.protocol.specs.Registers.{with_flag, warm, read_acquired, byte_copied, read_released, write_acquired, write_released, advanced, cycle_ended, faulted}
use Rattle.protocol.specs.State.{Core, Plant, State, Sample, Task, core, mode}
use Rattle.protocol.specs.Step.{read_taken, read_next, read_done, write_taken, write_next, write_done, step, run, reading, writing, taking_of, takings, encoded, order_list}
use Rattle.protocol.specs.Whole.{whole_one, whole}
use Rattle.protocol.specs.Instruction.{Executed, applied, halted, limited, instruction_by}
use Rattle.protocol.specs.Variables.{Variable, writes_it, reads_it, reads_of, writes_of, value}
use Rattle.protocol.specs.History.{latest, Finished, brought}
use Rattle.protocol.specs.Laws.{Between}
use Rattle.protocol.specs.Fresh.{fresh_zero}

-- ---- the task set

-- WRITE by core 0 and READ by core 1: bits 0 and 5
abbrev pub temperature : Variable
temperature = record { place = 10; width = 2; attribute = 33; locals = 4 ∷ 0 ∷ 0 ∷ 0 ∷ [] }

abbrev pub flow : Variable
flow = record { place = 20; width = 2; attribute = 33; locals = 6 ∷ 2 ∷ 0 ∷ 0 ∷ [] }

unfoldable pub variables : List Variable
variables = temperature ∷ flow ∷ []

-- core 0 copies its input bytes; then it stops by a zero divisor where the first of them is 0, else it returns. Core 1 returns at once.
unfoldable pub answer : ℕ → Core → Executed
answer k c =
    pick (both (eqb k 0) (eqb c.registers.counter 0))
    record { outcome = Next 1; memory = splice c.memory 4 (take 4 c.memory) }
    (pick (both (eqb k 0) (eqb (byte c.memory 0) 0)) (halted 3 c.memory) record { outcome = Return; memory = c.memory })

unfoldable pub samples : ℕ → List Sample
samples k =
    pick (eqb k 0)
    (record { time = 100; input = 21 ∷ 1 ∷ 5 ∷ 2 ∷ [] } ∷ record { time = 200; input = 22 ∷ 1 ∷ 6 ∷ 2 ∷ [] } ∷ record { time = 300; input = 0 ∷ 0 ∷ 7 ∷ 2 ∷ [] } ∷ [])
    (record { time = 150; input = [] } ∷ record { time = 250; input = [] } ∷ [])

unfoldable pub task : Task
task = record { samples = samples; reads = reads_of variables; writes = writes_of variables; limit = λ k. 9; instruction = instruction_by (λ k. 9) answer }

unfoldable pub start : State
start = fresh_zero (8 ∷ 4 ∷ [])

-- ---- lists of steps

-- core 0 waits to write, while core 1 has read the temperature and not yet the flow
unfoldable pub waiting : List ℕ
waiting = 0 ∷ 0 ∷ 0 ∷ 0 ∷ 1 ∷ 1 ∷ 1 ∷ []

-- core 0 tries in vain; core 1 reads on; core 0 writes, while core 1 executes and tries in vain; a core that is not there; core 1 writes
unfoldable pub mixed : List ℕ
mixed = waiting ++ (0 ∷ 1 ∷ 1 ∷ 0 ∷ 1 ∷ 0 ∷ 1 ∷ 0 ∷ 0 ∷ 0 ∷ 9 ∷ 1 ∷ 1 ∷ [])

-- a cycle of core 0, and one of core 1
unfoldable pub measuring : List ℕ
measuring = replicate 9 0

unfoldable pub recording : List ℕ
recording = replicate 8 1

-- core 0: two cycles, a third one up to its fault, and steps after it
unfoldable pub faulting : List ℕ
faulting = measuring ++ (measuring ++ replicate 9 0)

-- ---- what they come to

-- on an `unfolding` line: the task set, the lists and the machine compute
computing : Unit {0}
unfolding variables answer samples task start waiting mixed measuring recording faulting pick splice reads_it writes_it instruction_by applied limited advanced
    cycle_ended faulted with_flag warm step taking_of encoded read_taken read_acquired read_next byte_copied read_done read_released write_taken write_acquired write_next
    write_done write_released whole_one
computing = tt

-- core k after the steps ks
abbrev pub core_after : List ℕ → ℕ → Core
core_after ks k = core (run task ks start).plant k

pub record Computed : Type 0 where
  -- document 02: "the first such step joins, a second changes nothing"
  pub joins : (step task 0 (run task waiting start)).semaphore.line ≡ 0 ∷ []
  pub waits : step task 0 (step task 0 (run task waiting start)) ≡ step task 0 (run task waiting start)
  -- the takings of the mixed run, and the bytes of its order list
  pub taken-mixed : takings task mixed start ≡ reading 0 ∷ reading 1 ∷ writing 0 ∷ writing 1 ∷ []
  pub order-mixed : order_list task mixed start ≡ 0 ∷ 1 ∷ 16 ∷ 17 ∷ []
  -- the first reading of core 1 brought start values, though core 0 had executed
  pub brought-first : (core_after mixed 1).memory ≡ 0 ∷ 0 ∷ 0 ∷ 0 ∷ []
  -- all but the semaphore, as the whole-exchange machine leaves it
  pub same_end : (run task mixed start).plant ≡ whole task (takings task mixed start) start.plant
  -- each cycle runs on its own input record
  pub first-record : (core_after (0 ∷ []) 0).memory ≡ 21 ∷ 1 ∷ 5 ∷ 2 ∷ 0 ∷ 0 ∷ 0 ∷ 0 ∷ []
  pub second-record : (core_after (measuring ++ (0 ∷ [])) 0).memory ≡ 22 ∷ 1 ∷ 6 ∷ 2 ∷ 21 ∷ 1 ∷ 5 ∷ 2 ∷ []
  -- after a fault: mode 5 and flag bit 3, two cycles counted, and the variables as the second cycle published them, though the third had
  -- put its values in place
  pub stopped : mode (core_after faulting 0) ≡ 5
  pub flagged : (core_after faulting 0).registers.flags ≡ 8
  pub cycles-done : (core_after faulting 0).registers.cycles ≡ 2
  pub in_place : (core_after faulting 0).memory ≡ 0 ∷ 0 ∷ 7 ∷ 2 ∷ 0 ∷ 0 ∷ 7 ∷ 2 ∷ []
  pub last-temperature : value (run task faulting start).plant.shared 10 2 ≡ 22 ∷ 1 ∷ []
  pub last-flow : value (run task faulting start).plant.shared 20 2 ≡ 6 ∷ 2 ∷ []

pub computed : Computed
unfolding computing
computed = record {
  joins = refl;
  waits = refl;
  taken-mixed = refl;
  order-mixed = refl;
  brought-first = refl;
  same_end = refl;
  first-record = refl;
  second-record = refl;
  stopped = refl;
  flagged = refl;
  cycles-done = refl;
  in_place = refl;
  last-temperature = refl;
  last-flow = refl;
}

-- ---- a finished reading

-- the second reading of core 1, which core 0's step does not disturb
pub again : Finished task start (mixed ++ (1 ∷ 0 ∷ 1 ∷ 1 ∷ 1 ∷ 1 ∷ [])) 1
unfolding computing
again = record { before = mixed; during = 0 ∷ 1 ∷ 1 ∷ 1 ∷ []; rest = []; split = refl; was-idle = refl; stays = (refl, (refl, (refl, (refl, refl)))); done = refl }

-- it brought temperature and flow of core 0's first cycle, as core 0 had published them
pub brought-again : brought again ≡ 21 ∷ 1 ∷ 5 ∷ 2 ∷ []
unfolding computing again
brought-again = refl

pub published-before : latest task 0 none again.before start ≡ some (21 ∷ 1 ∷ 5 ∷ 2 ∷ 21 ∷ 1 ∷ 5 ∷ 2 ∷ [])
unfolding computing again
published-before = refl

-- ---- two orders

-- the same steps in two orders: each ends between cycles, and core 1 has other data
pub record Orders : Type 0 where
  pub one-ends : Between (run task (measuring ++ recording) start)
  pub other-ends : Between (run task (recording ++ measuring) start)
  pub one : (core_after (measuring ++ recording) 1).memory ≡ 21 ∷ 1 ∷ 5 ∷ 2 ∷ []
  pub other : (core_after (recording ++ measuring) 1).memory ≡ 0 ∷ 0 ∷ 0 ∷ 0 ∷ []

one-ends : Between (run task (measuring ++ recording) start)
unfolding computing
one-ends zero = inl refl
one-ends (suc zero) = inl refl
one-ends (suc (suc k)) = inr refl

other-ends : Between (run task (recording ++ measuring) start)
unfolding computing
other-ends zero = inl refl
other-ends (suc zero) = inl refl
other-ends (suc (suc k)) = inr refl

pub orders : Orders
unfolding computing
orders = record { one-ends = one-ends; other-ends = other-ends; one = refl; other = refl }

-- The order of exchanges matters: demand 3 does not hold because every order would end alike
pub orders-differ : (run task (measuring ++ recording) start).plant ≢ (run task (recording ++ measuring) start).plant
orders-differ e =
    let f : byte (core_after (measuring ++ recording) 1).memory 0 ≡ byte (core_after (recording ++ measuring) 1).memory 0 = ap (λ (p : Plant). byte (core p 1).memory 0) e in
    let g : ◌≡◌ {A = ℕ} 21 0 = rw (orders.one, orders.other) at f in
    omega arith
