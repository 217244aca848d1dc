-- Where a run stands between two of its steps, and what its parts promise of it. In order: a place of execution, and of an exchange; the invariant;
-- steps that carry a run on.
use Rattle.std.specs.Prelude.{◌≡◌, true, List, ℕ, suc, ◌+◌, ◌≤◌, ◌<◌, length, get_or, set, take, drop}
use Rattle.std.proofs.Math.Option.{Option, none, some}
use Rattle.memory.specs.Memory.{splice, total}
use Rattle.protocol.specs.declared.Registers.{Registers}
use Rattle.protocol.specs.Modes.{executing}
use Rattle.protocol.specs.Registers.{advanced, faulted}
use Rattle.protocol.specs.State.{Semaphore, State}
use Rattle.protocol.specs.Step.{run, takings, order_list}
use Rattle.runner.specs.declared.Reached.{Reached}
use Rattle.runner.specs.declared.Single.{Single}
use Rattle.runner.specs.declared.Single.TheVariants.{Advanced, Otherwise}
use Rattle.exchange.specs.declared.Cursor.{Cursor}
use Rattle.records.specs.File.{cores}
use Rattle.taskset.specs.Task.{sizes_of}
use Rattle.states.specs.Task.{task_of}
use Rattle.states.specs.Machine.{no_registers, stack_in, state_in}
use Rattle.states.specs.Fit.{Fit}
use Rattle.states.specs.Set.{AcceptedSet}
use Rattle.steps.specs.Moving.{CursorAimed}
use Rattle.order.specs.Order.{steps_on}

-- ---- a place of execution, and of an exchange

-- the registers r with another one
abbrev pub executing_at : Registers → ℕ → ℕ → ℕ → ℕ → Registers
executing_at r counter offset depth count = record {
  mode = r.mode;
  counter = counter;
  offset = offset;
  depth = depth;
  count = count;
  exchange = r.exchange;
  cycles = r.cycles;
  flags = r.flags;
  time = r.time;
}

-- the registers r after a fault, if there is one
abbrev pub faulted_by : Option ℕ → Registers → Registers
faulted_by none r = r
faulted_by (some bit) r = faulted bit r

-- what a stretch of instructions hands over of the registers r that it leaves, and these again, for a core that had the registers r before
abbrev pub reached_of : ℕ → Registers → Reached
reached_of step r = record { step = step; mode = r.mode; counter = r.counter; offset = r.offset; depth = r.depth; count = r.count; flags = r.flags }

abbrev pub reached_at : Registers → Reached → Registers
reached_at r x = record {
  mode = x.mode;
  counter = x.counter;
  offset = x.offset;
  depth = x.depth;
  count = x.count;
  exchange = r.exchange;
  cycles = r.cycles;
  flags = x.flags;
  time = r.time;
}

-- the registers after a single instruction of a core with the registers r
abbrev pub single_at : Registers → Single → Registers
single_at r (Advanced place) = advanced place r
single_at r (Otherwise s) = s

-- the registers r with more bytes of an exchange copied
abbrev pub bytes_on : Registers → ℕ → Registers
bytes_on r count = record {
  mode = r.mode;
  counter = r.counter;
  offset = r.offset;
  depth = r.depth;
  count = r.count;
  exchange = r.exchange + count;
  cycles = r.cycles;
  flags = r.flags;
  time = r.time;
}

-- ---- the invariant

-- What holds before step i of a run: the first i steps made the state now, and what is left of the order makes of it what the whole makes of the first one
pub record Running (f t : List ℕ) (order list₀ : List ℕ) (s₀ : State) (cs₀ : List Registers) (places₀ offsets₀ : List ℕ)
    (i : ℕ) (cs : List Registers) (places offsets : List ℕ) (h : Semaphore) (taken : ℕ) (d sh list : List ℕ) : Type 0 where
  pub within : i ≤ length order
  pub reached : run (task_of f t) (take i order) s₀ ≡ state_in f cs places offsets h d sh
  pub rest : run (task_of f t) (drop i order) (state_in f cs places offsets h d sh) ≡ run (task_of f t) order s₀
  pub listed : splice list taken (order_list (task_of f t) (drop i order) (state_in f cs places offsets h d sh)) ≡ splice list₀ 0 (order_list (task_of f t) order s₀)
  pub counted : taken + length (takings (task_of f t) (drop i order) (state_in f cs places offsets h d sh)) ≡ length (takings (task_of f t) order s₀)
  pub room : taken ≤ i
  pub fit : Fit f t (state_in f cs places offsets h d sh)
  pub four : length cs ≡ 4
  pub entries : (length places ≡ 64) × (length offsets ≡ 64)
  pub buffer : length d ≡ total (sizes_of f)
  pub list_length : length list ≡ length list₀
  pub spare : (j : ℕ) → cores f ≤ j → (get_or cs j no_registers ≡ get_or cs₀ j no_registers) × (stack_in places offsets j ≡ stack_in places₀ offsets₀ j)

-- the same with the cursor
pub record RunningAt (f t : List ℕ) (order list₀ : List ℕ) (s₀ : State) (cs₀ : List Registers) (places₀ offsets₀ : List ℕ)
    (i : ℕ) (cs : List Registers) (places offsets : List ℕ) (h : Semaphore) (taken : ℕ) (d sh list : List ℕ) (cursor : Cursor) : Type 0 where
  pub running : Running f t order list₀ s₀ cs₀ places₀ offsets₀ i cs places offsets h taken d sh list
  pub aimed : (k : ℕ) → k < cores f → h.holder ≡ suc k → CursorAimed f k (get_or cs k no_registers) cursor

-- ---- steps that carry a run on

-- some run stands before step i, and core k has the registers r
pub record RunStands (f t order : List ℕ) (i k : ℕ) (r : Registers) (places offsets d : List ℕ) : Type 0 where
  pub accepted : AcceptedSet f t
  pub known : k < cores f
  pub list₀ : List ℕ
  pub s₀ : State
  pub cs₀ : List Registers
  pub places₀ : List ℕ
  pub offsets₀ : List ℕ
  pub cs : List Registers
  pub h : Semaphore
  pub taken : ℕ
  pub sh : List ℕ
  pub list : List ℕ
  pub cursor : Cursor
  pub here : get_or cs k no_registers ≡ r
  pub loops : RunningAt f t order list₀ s₀ cs₀ places₀ offsets₀ i cs places offsets h taken d sh list cursor

-- every run that stands before step i, where core k has the registers r and the stacks and data are those, stands before step i' with the
-- registers r' of core k and these stacks and data; nothing else has changed
abbrev pub CarriesRun : List ℕ → List ℕ → List ℕ → ℕ → ℕ → Registers → List ℕ → List ℕ → List ℕ → ℕ → Registers → List ℕ → List ℕ → List ℕ → Type 0
CarriesRun f t order k i r places offsets d i' r' places' offsets' d' =
    (list₀ : List ℕ) (s₀ : State) (cs₀ : List Registers) (places₀ offsets₀ : List ℕ) (cs : List Registers) (h : Semaphore) (taken : ℕ) (sh list : List ℕ) (cursor : Cursor)
    → get_or cs k no_registers ≡ r
    → RunningAt f t order list₀ s₀ cs₀ places₀ offsets₀ i cs places offsets h taken d sh list cursor
    → RunningAt f t order list₀ s₀ cs₀ places₀ offsets₀ i' (set cs k r') places' offsets' h taken d' sh list cursor

-- the same of one step of core k, in whatever order it stands
abbrev pub CarriesStep : List ℕ → List ℕ → ℕ → Registers → List ℕ → List ℕ → List ℕ → Registers → List ℕ → List ℕ → List ℕ → Type 0
CarriesStep f t k r places offsets d r' places' offsets' d' =
    (order : List ℕ) (i : ℕ) → steps_on order i k ≡ true → CarriesRun f t order k i r places offsets d (i + 1) r' places' offsets' d'

-- and of a stretch of instructions, of one at least, which count
pub record Reaches (f t order : List ℕ) (k from : ℕ) (before : Registers) (places offsets d : List ℕ) (x : Reached) (places' offsets' d' : List ℕ) : Type 0 where
  pub onward : from < x.step
  pub carries : CarriesRun f t order k from before places offsets d x.step (reached_at before x) places' offsets' d'
  pub counted : x.mode ≡ executing → x.count + from ≡ before.count + x.step
