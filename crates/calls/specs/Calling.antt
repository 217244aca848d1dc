-- Calls one after another on one file and one trace, each with the state and the memories that the one before left, refused ones too; and what
-- they are as steps of the machine of crate protocol. In order: a call and what it leaves; lists of calls; the steps that they count as; the claims.
-- `run-is-steps` of proofs/Calling proves `RunIsSteps` of every run that is not refused; `calls-interleaved` proves `CallsInterleaved`, which is
-- demand 3 of every list of calls. Not here: what each call is for every input (specs/Calls); calls on a lent core table (crate rikzord).
use Rattle.std.specs.Prelude.{◌≡◌, List, [], ◌∷◌, ◌++◌, map, ℕ, ◌+◌, eqb, length, take, drop}
use Rattle.verdict.specs.Verdict.{pick}
use Rattle.memory.specs.Memory.{splice}
use Rattle.protocol.specs.State.{State}
use Rattle.protocol.specs.Step.{run, takings, encoded}
use Rattle.taskset.specs.Fresh.{fresh_of}
use Rattle.states.specs.declared.Held.{Held}
use Rattle.states.specs.Task.{task_of}
use Rattle.semaphore.specs.Line.{semaphore_of, semaphore_back}
use Rattle.states.specs.Machine.{state_of}
use Rattle.runner.specs.Runs.{Left, left_as}
use Rattle.machine.specs.Calls.{answer_of, fresh_call, run_call, step_call}
use Rattle.calls.specs.Interleaving.{MachineInterleaved}

-- ---- a call, and what it leaves

-- how much of a memory a call lends: all of it, or no more than its first bytes, which is 21 unless these are all
pub data Lending : Type 0 where
  entire : Lending
  front : ℕ → Lending

abbrev pub lent_of : Lending → List ℕ → List ℕ
lent_of entire m = m
lent_of (front n) m = take n m

-- the memory m after a call that left y of what it was lent
abbrev pub replaced : Lending → List ℕ → List ℕ → List ℕ
replaced entire m y = y
replaced (front n) m y = y ++ drop n m

-- a step of a core, or a run of an order with the order list that is lent to it; and how much of data buffer and shared memory the call lends
pub data Call : Type 0 where
  stepping : Lending → Lending → ℕ → Call
  running : Lending → Lending → List ℕ → List ℕ → Call

-- y is what a call left that was lent these parts of the memories that x has
abbrev pub restored : Lending → Lending → Left → Left → Left
restored a b x y = left_as y.answer (replaced a x.memory y.memory) (replaced b x.shared y.shared) y.order

-- what a call leaves that is made with what the one before left
abbrev pub leaves : List ℕ → List ℕ → Call → Left → Left
leaves f t (stepping a b k) x = restored a b x (step_call f t x.answer.state (lent_of a x.memory) (lent_of b x.shared) k)
leaves f t (running a b order list) x = restored a b x (run_call f t x.answer.state (lent_of a x.memory) (lent_of b x.shared) order list)

-- ---- lists of calls

abbrev pub calls : List ℕ → List ℕ → List Call → Left → Left
calls f t [] x = x
calls f t (c ∷ cs) x = calls f t cs (leaves f t c x)

-- step calls of the cores ks, with the memories whole
abbrev pub step_calls : List ℕ → List ℕ → List ℕ → Left → Left
step_calls f t ks x = calls f t (map (stepping entire entire) ks) x

-- the state, with the lent memories, that a call left
abbrev pub whole_of : List ℕ → Left → State
whole_of f x = state_of f x.answer.state x.memory x.shared

-- ---- the steps that calls count as: "A refused call changes nothing and is no taking; a run counts as its steps."

abbrev pub steps_in : Call → List ℕ
steps_in (stepping a b k) = k ∷ []
steps_in (running a b order list) = order

abbrev pub counts_as : List ℕ → List ℕ → Call → Left → List ℕ
counts_as f t c x = pick (eqb (leaves f t c x).answer.refusal 0) (steps_in c) []

abbrev pub steps_of : List ℕ → List ℕ → List Call → Left → List ℕ
steps_of f t [] x = []
steps_of f t (c ∷ cs) x = counts_as f t c x ++ steps_of f t cs (leaves f t c x)

-- the takings that the calls count, together
abbrev pub taken_of : List ℕ → List ℕ → List Call → Left → ℕ
taken_of f t [] x = 0
taken_of f t (c ∷ cs) x = (leaves f t c x).answer.taken + taken_of f t cs (leaves f t c x)

-- ---- the claims

-- A refused call changes nothing: `refused-leaves` proves it of every call with a refusal number, whatever state and memories it is made with
pub record Unchanged (x y : Left) : Type 0 where
  pub state : y.answer.state ≡ x.answer.state
  pub memory : y.memory ≡ x.memory
  pub shared : y.shared ≡ x.shared

-- a caller's state with zeros past the line, as an accepted call leaves it; a run of no steps is one
abbrev pub tidied : Held → Held
tidied h = record { count = h.count; semaphore = semaphore_back (semaphore_of h.semaphore); cores = h.cores; places = h.places; offsets = h.offsets }

-- A run equals its step calls one after another, and its order list is the takings
pub record RunIsSteps (f t : List ℕ) (h : Held) (d sh order list : List ℕ) : Type 0 where
  pub state : (run_call f t h d sh order list).answer.state ≡ (step_calls f t order (left_as (answer_of 0 (tidied h)) d sh [])).answer.state
  pub memory : (run_call f t h d sh order list).memory ≡ (step_calls f t order (left_as (answer_of 0 (tidied h)) d sh [])).memory
  pub shared : (run_call f t h d sh order list).shared ≡ (step_calls f t order (left_as (answer_of 0 (tidied h)) d sh [])).shared
  pub listed : (run_call f t h d sh order list).order ≡ splice list 0 (map encoded (takings (task_of f t) order (state_of f h d sh)))
  pub counted : (run_call f t h d sh order list).answer.taken ≡ length (takings (task_of f t) order (state_of f h d sh))

-- The calls cs, from what a call left that made the fresh state
pub record InterleavedFrom (f t : List ℕ) (x : Left) (cs : List Call) : Type 0 where
  -- what they leave is what the steps that they count as make of the fresh state
  pub steps : whole_of f (calls f t cs x) ≡ run (task_of f t) (steps_of f t cs x) (fresh_of f)
  -- they count the takings of those steps
  pub taken : taken_of f t cs x ≡ length (takings (task_of f t) (steps_of f t cs x) (fresh_of f))
  -- and of those steps demand 3 holds, both parts
  pub interleaved : MachineInterleaved f t (steps_of f t cs x)

-- from the call for the fresh state that was lent the memories d and sh
abbrev pub CallsInterleaved : List ℕ → List ℕ → List ℕ → List ℕ → List Call → Type 0
CallsInterleaved f t d sh cs = InterleavedFrom f t (fresh_call f d sh) cs
