-- One turn of the scan of the core table, and its end: what the test of a core answers is whether it moves. Assumes nothing.
use mathlib.Core.Path.{◌≡◌, sym, ap, ◌∙◌}
use mathlib.Core.Bool.{Bool, true, false}
use mathlib.Core.List.{List}
use Prim.Native.Nat.{ℕ, ◌+◌, ◌%◌, ◌≤◌, ◌<◌}
use native.Mathlib.Omega.{arith}
use lib.ListN.{get_or}
use Rattle.records.specs.File.{cores}
use Rattle.taskset.specs.Trace.{record_count}
use Rattle.semaphore.specs.Line.{semaphore_of}
use Rattle.states.specs.Set.{AcceptedSet}
use Rattle.states.specs.Machine.{no_registers}
use Rattle.states.specs.Tasks.{core_task, no_task, tasks_of}
use Rattle.states.specs.declared.CoreTask.{CoreTask}
use Rattle.states.specs.declared.Held.{Held}
use Rattle.states.proofs.Tasks.{tasks-at}
use Rattle.table.specs.Table.{can_move, can_move_at, round_from, next_moving}
use Rattle.std.proofs.Common.{Some, None}
use Rattle.table.proofs.Ring.{Looking, looking-more, looking-stop, looking-end, round-inside}

-- the cores from number i after the given one on are still to be looked at
abbrev pub Scanning : List ℕ → List ℕ → Held → ℕ → ℕ → Type 0
Scanning f t s given i = Looking (can_move_at f t s) (round_from (cores f) given) (cores f) i

module _ (f t : List ℕ) (s : Held) (tasks : List CoreTask) (n given : ℕ) (p : AcceptedSet f t × (tasks ≡ tasks_of f t) × (n ≡ cores f) × (given < n)) where
  -- core number i after the given one is one of at most four
  pub inside-four : (i : ℕ) → (given + i) % n < 4
  inside-four i = omega (arith, round-inside n given i p.3, p.0.few, p.2)

  module _ (i : ℕ) (b : Bool) (w : Scanning f t s given i) (h : i ≤ n) (e : b ≡ can_move (semaphore_of s.semaphore) ((given + i) % n) (get_or tasks ((given + i) % n) no_task).count (get_or s.cores ((given + i) % n) no_registers)) where
    answered : b ≡ can_move_at f t s (round_from (cores f) given i)
    unfolding can_move_at core_task
    answered =
        let l : (given + i) % n < cores f = omega (arith, round-inside n given i p.3, p.2) in
        let count : (get_or tasks ((given + i) % n) no_task).count ≡ record_count f t ((given + i) % n) = ap (λ (c : CoreTask). c.count) (tasks-at f t p.0 tasks p.1 _ l) in
        rw (← p.2, ← count) e

    pub scan-named : b ≡ true → Some ((given + i) % n) ≡ next_moving f t s given
    unfolding next_moving
    scan-named q = rw p.2 (looking-stop (can_move_at f t s) (round_from (cores f) given) (cores f) i w (omega (arith, p.2)) (sym answered ∙ q))

    pub scan-more : b ≡ false → Scanning f t s given (i + 1)
    scan-more q = looking-more (can_move_at f t s) (round_from (cores f) given) (cores f) i w (omega (arith, p.2)) (sym answered ∙ q)

  pub scan-none : (i : ℕ) → Scanning f t s given i → n < i → None ≡ next_moving f t s given
  unfolding next_moving
  scan-none i w h = looking-end (can_move_at f t s) (round_from (cores f) given) (cores f) i w (omega (arith, p.2))
