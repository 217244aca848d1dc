-- A run of an order on a fit state: its answer and every lent byte afterwards.
use Rattle.std.specs.Prelude.{ℕ, Bool, true, List, [], ◌∷◌, length, ltb}
use Rattle.verdict.specs.Verdict.{both}
use Rattle.memory.specs.Memory.{splice}
use Rattle.protocol.specs.Step.{run, order_list}
use Rattle.protocol.specs.declared.Registers.{Registers}
use Rattle.semaphore.specs.declared.Semaphore.{Semaphore}
use Rattle.records.specs.File.{cores}
use Rattle.states.specs.declared.Held.{Held}
use Rattle.states.specs.Task.{task_of}
use Rattle.states.specs.Machine.{state_of, held_after, data_of}
use Rattle.runner.specs.declared.RunAnswer.{RunAnswer}

-- 20: each core of an order is below n
abbrev pub all_below : ℕ → List ℕ → Bool
all_below n [] = true
all_below n (k ∷ ks) = both (ltb k n) (all_below n ks)

-- ---- what a call leaves: its answer and every lent byte

pub record Left : Type 0 where
  pub answer : RunAnswer
  pub memory : List ℕ
  pub shared : List ℕ
  pub order : List ℕ

abbrev pub left_as : RunAnswer → List ℕ → List ℕ → List ℕ → Left
left_as r d sh list = record { answer = r; memory = d; shared = sh; order = list }

-- the answer of a run from the state h, by its parts afterwards
abbrev pub ran_answer : Held → Semaphore → List Registers → List ℕ → List ℕ → ℕ → RunAnswer
ran_answer h semaphore cs places offsets taken = record { refusal = 0; taken = taken; state = record { count = h.count; semaphore = semaphore; cores = cs; places = places; offsets = offsets } }

-- the steps of an order, whose takings go to the front of the order list
unfoldable pub ran_call : List ℕ → List ℕ → Held → List ℕ → List ℕ → List ℕ → List ℕ → Left
ran_call f t h d sh order list =
    left_as
    (record { refusal = 0; taken = length (order_list (task_of f t) order (state_of f h d sh)); state = held_after (cores f) h (run (task_of f t) order (state_of f h d sh)) })
    (data_of (run (task_of f t) order (state_of f h d sh)))
    (run (task_of f t) order (state_of f h d sh)).plant.shared
    (splice list 0 (order_list (task_of f t) order (state_of f h d sh)))
