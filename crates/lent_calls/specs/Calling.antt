-- Calls on a lent core table one after another, each with the table, the semaphore and the memories that the one before left, refused ones
-- too; and step calls that are lent the registers of their core. They are those of crate calls (specs/Calling), made over the C interface.
-- In order: a call and what it leaves; lists of calls; the steps that they count as; the claim; steps with lent registers; the same list by value; a run's takings.
-- `lent-interleaved` of proofs/Calling proves `LentInterleaved`, which is demand 3 of every list of lent calls; `lent-fair` proves `LentFair`, the fair line of
-- document 02, 2.4 of it. `mixed-interleaved` of proofs/WithRegisters proves `MixedInterleaved`, by `registers-leave`; `lent-by-value` of proofs/ByValue proves
-- `SameCalls`, `run-listed` `RunLentListed`. Not here: what each call is for every input (specs/Lent); that a refused call leaves all (proofs/Unchanged).
use Rattle.std.specs.Prelude.{◌≡◌, List, [], ◌∷◌, ◌++◌, map, ℕ, eqb, length, take, drop}
use Rattle.verdict.specs.Verdict.{pick}
use Rattle.memory.specs.Memory.{splice}
use Rattle.protocol.specs.declared.Registers.{Registers}
use Rattle.protocol.specs.State.{State}
use Rattle.protocol.specs.Step.{run, takings, encoded}
use Rattle.records.specs.File.{cores}
use Rattle.taskset.specs.Fresh.{fresh_of}
use Rattle.semaphore.specs.declared.Semaphore.{Semaphore}
use Rattle.states.specs.Task.{task_of}
use Rattle.states.specs.Machine.{no_registers, state_of}
use Rattle.runner.specs.Runs.{Left}
use Rattle.calls.specs.Calling.{Lending, lent_of, replaced, Call, stepping, running, restored, leaves, calls, whole_of, steps_in, CallsInterleaved}
use Rattle.machine.specs.Calls.{fresh_call}
use Rattle.calls.specs.Interleaving.{MachineInterleaved}
use Rattle.calls.specs.Fair.{MachineFair}
use Rattle.snapshot.specs.declared.CoreRecord.{CoreRecord}
use Rattle.snapshot.specs.Snapshot.{held, registers_after, step_registers}
use Rattle.rikzord.specs.Lent.{loaded, Lent, lent, step_lent, run_lent, taken_lent, fresh_lent}

-- ---- a call, and what it leaves

-- a call that lends the first so many records of the table, which is 23 unless these are n
pub data LentCall : Type 0 where
  over : ℕ → Call → LentCall

-- y is what a call left that was lent so many records of the table that x has, and these parts of its memories
abbrev pub restored_lent : ℕ → Lending → Lending → Lent → Lent → Lent
restored_lent rows a b x y =
    lent y.refusal (y.table ++ drop rows x.table) y.semaphore (replaced a x.memory y.memory) (replaced b x.shared y.shared) y.order

-- what a call leaves that is made with what the one before left
abbrev pub leaves_lent : List ℕ → List ℕ → LentCall → Lent → Lent
leaves_lent f t (over rows (stepping a b k)) x =
    restored_lent rows a b x (step_lent f t (take rows x.table) x.semaphore (lent_of a x.memory) (lent_of b x.shared) k)
leaves_lent f t (over rows (running a b order list)) x =
    restored_lent rows a b x (run_lent f t (take rows x.table) x.semaphore (lent_of a x.memory) (lent_of b x.shared) order list)

-- ---- lists of calls

abbrev pub lent_calls : List ℕ → List ℕ → List LentCall → Lent → Lent
lent_calls f t [] x = x
lent_calls f t (c ∷ cs) x = lent_calls f t cs (leaves_lent f t c x)

-- the state that the table's first n records hold, with the semaphore and the lent memories
abbrev pub whole_lent : List ℕ → Lent → State
whole_lent f x = state_of f (held (loaded (take (cores f) x.table)) x.semaphore) x.memory x.shared

-- ---- the steps that calls count as: "A refused call changes nothing and is no taking; a run counts as its steps."

abbrev pub call_of : LentCall → Call
call_of (over rows c) = c

abbrev pub counts_lent : List ℕ → List ℕ → LentCall → Lent → List ℕ
counts_lent f t c x = pick (eqb (leaves_lent f t c x).refusal 0) (steps_in (call_of c)) []

abbrev pub lent_steps_of : List ℕ → List ℕ → List LentCall → Lent → List ℕ
lent_steps_of f t [] x = []
lent_steps_of f t (c ∷ cs) x = counts_lent f t c x ++ lent_steps_of f t cs (leaves_lent f t c x)

-- ---- the claim: the calls cs, from what `rikzord_fresh` left that was lent the table ys, the semaphore p and the memories d and sh

pub record LentInterleaved (f t : List ℕ) (ys : List CoreRecord) (p : Semaphore) (d sh : List ℕ) (cs : List LentCall) : Type 0 where
  -- what they leave in the table and the memories is what the steps that they count as make of the fresh state
  pub steps : whole_lent f (lent_calls f t cs (fresh_lent f ys p d sh)) ≡ run (task_of f t) (lent_steps_of f t cs (fresh_lent f ys p d sh)) (fresh_of f)
  -- and of those steps demand 3 holds, both parts
  pub interleaved : MachineInterleaved f t (lent_steps_of f t cs (fresh_lent f ys p d sh))

-- The same calls, and the fair line (document 02, 2.4): the steps that they count as are fair
pub record LentFair (f t : List ℕ) (ys : List CoreRecord) (p : Semaphore) (d sh : List ℕ) (cs : List LentCall) : Type 0 where
  pub steps : whole_lent f (lent_calls f t cs (fresh_lent f ys p d sh)) ≡ run (task_of f t) (lent_steps_of f t cs (fresh_lent f ys p d sh)) (fresh_of f)
  pub fair : MachineFair f t (lent_steps_of f t cs (fresh_lent f ys p d sh))

-- ---- a step call that is lent the registers of its core, as they stand in the state

-- the registers that are lent for core k
abbrev pub lent_registers : Left → ℕ → Registers
lent_registers x k = registers_after x.answer.state k no_registers

abbrev pub leaves_registers : List ℕ → List ℕ → Lending → Lending → ℕ → Left → Left
leaves_registers f t a b k x = restored a b x (step_registers f t x.answer.state (lent_registers x k) (lent_of a x.memory) (lent_of b x.shared) k)

-- It leaves what the step call by value leaves, and in the lent registers those of the state
pub record RegistersLeave (f t : List ℕ) (a b : Lending) (k : ℕ) (x : Left) : Type 0 where
  pub leaves-same : leaves_registers f t a b k x ≡ leaves f t (stepping a b k) x
  pub registers-same : registers_after (leaves_registers f t a b k x).answer.state k (lent_registers x k) ≡ lent_registers (leaves f t (stepping a b k) x) k

-- calls by value, and among them steps that are lent their core's registers
pub data MixedCall : Type 0 where
  by_value : Call → MixedCall
  with-registers : Lending → Lending → ℕ → MixedCall

abbrev pub as_call : MixedCall → Call
as_call (by_value c) = c
as_call (with-registers a b k) = stepping a b k

abbrev pub leaves_mixed : List ℕ → List ℕ → MixedCall → Left → Left
leaves_mixed f t (by_value c) x = leaves f t c x
leaves_mixed f t (with-registers a b k) x = leaves_registers f t a b k x

abbrev pub mixed_calls : List ℕ → List ℕ → List MixedCall → Left → Left
mixed_calls f t [] x = x
mixed_calls f t (c ∷ cs) x = mixed_calls f t cs (leaves_mixed f t c x)

-- Every list of them leaves what the list by value leaves, of which demand 3 holds
pub record MixedInterleaved (f t d sh : List ℕ) (cs : List MixedCall) : Type 0 where
  pub same : mixed_calls f t cs (fresh_call f d sh) ≡ calls f t (map as_call cs) (fresh_call f d sh)
  pub interleaved : CallsInterleaved f t d sh (map as_call cs)

-- ---- the same list by value

-- What x has is what y has: the table's first n records hold the state, and the memories are the same. `lent-by-value` proves it of the calls cs over
-- the lent table and by value, each list from its call for the fresh state; and that each call answers the same number.
pub record HoldsSame (f : List ℕ) (x : Lent) (y : Left) : Type 0 where
  pub whole : whole_lent f x ≡ whole_of f y
  pub memory : x.memory ≡ y.memory
  pub shared : x.shared ≡ y.shared

pub data SameCalls (f t : List ℕ) : List Call → Lent → Left → Type 0 where
  no_call : {x : Lent} {y : Left} → HoldsSame f x y → SameCalls f t [] x y
  one-call : {c : Call} {cs : List Call} {x : Lent} {y : Left} → HoldsSame f x y → (leaves_lent f t (over (cores f) c) x).refusal ≡ (leaves f t c y).answer.refusal
      → SameCalls f t cs (leaves_lent f t (over (cores f) c) x) (leaves f t c y) → SameCalls f t (c ∷ cs) x y

-- ---- the takings of a run over a lent table

-- A run that is not refused writes its takings to the front of the order list, and how many there are
pub record RunLentListed (f t : List ℕ) (ys : List CoreRecord) (p : Semaphore) (d sh order list : List ℕ) (taken : ℕ) : Type 0 where
  pub listed : (run_lent f t ys p d sh order list).order ≡ splice list 0 (map encoded (takings (task_of f t) order (state_of f (held (loaded ys) p) d sh)))
  pub counted : taken_lent f t ys p d sh order list taken ≡ length (takings (task_of f t) order (state_of f (held (loaded ys) p) d sh))
