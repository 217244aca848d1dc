-- A core's task in what loading file and trace has found, and in the table of all. Assumes nothing.
use mathlib.Core.Path.{◌≡◌, refl, sym, ap, ◌∙◌}
use mathlib.Core.List.{List, [], ◌∷◌}
use Prim.Native.Nat.{ℕ, zero, suc, ◌+◌, ◌<◌}
use native.Mathlib.Nat.{zero-mul, add-zero}
use native.Mathlib.Omega.{arith}
use borrow.Author.Tests.{lt-ltb}
use lib.ListN.{get_or}
use Rattle.verdict.proofs.Verdict.{pick_true}
use Rattle.records.specs.File.{cores}
use Rattle.taskset.specs.declared.Layout.{Layout}
use Rattle.taskset.specs.declared.TraceLayout.{TraceLayout}
use Rattle.taskset.specs.Layout.{no_core, core_at, core_layout, layout_of}
use Rattle.taskset.specs.Trace.{record_size, record_count, trace_place, count_of, first_of, trace_layout}
use Rattle.taskset.proofs.Accepted.{core-facts}
use Rattle.exchange.specs.Laid.{exchange_bytes}
use Rattle.exchange.proofs.Cursors.{length-reads, length-writes}
use Rattle.states.specs.Set.{AcceptedSet}
use Rattle.states.specs.Tasks.{core_task, no_task, task_at, tasks_of}
use Rattle.states.specs.declared.CoreTask.{CoreTask}

-- a table of four
four : {A : Type 0} (g : ℕ → A) (k : ℕ) (d : A) → k < 4 → get_or (g 0 ∷ g 1 ∷ g 2 ∷ g 3 ∷ []) k d ≡ g k
four g zero d h = refl
four g (suc zero) d h = refl
four g (suc (suc zero)) d h = refl
four g (suc (suc (suc zero))) d h = refl
four g (suc (suc (suc (suc k)))) d h = absurd (let y : ⊥ = omega arith in y)

pub tasks-at : (f t : List ℕ) → AcceptedSet f t → (l : List CoreTask) → l ≡ tasks_of f t → (k : ℕ) → k < cores f → get_or l k no_task ≡ core_task f t k
unfolding task_at
tasks-at f t ok l e k h =
    ap (λ (m : List CoreTask). get_or m k no_task) e
    ∙ four (task_at f t) k no_task (omega (arith, ok.few))
    ∙ pick_true _ _ _ (lt-ltb _ _ h)

-- ---- what loading has found

module _ (f t : List ℕ) (ok : AcceptedSet f t) (k : ℕ) (h : k < cores f) where
  layout-at : (l : Layout) → l ≡ layout_of f → get_or l.core k no_core ≡ core_at f k
  layout-at l e =
      ap (λ (m : Layout). get_or m.core k no_core) e
      ∙ four (core_layout f) k no_core (omega (arith, ok.few))
      ∙ (core-facts f ok.file k h).laid_out

  pub count_at_lem : (m : TraceLayout) → m ≡ trace_layout f t → get_or m.count k 0 ≡ record_count f t k
  unfolding count_of
  count_at_lem m e =
      ap (λ (l : TraceLayout). get_or l.count k 0) e ∙ four (count_of f t) k 0 (omega (arith, ok.few)) ∙ pick_true _ _ _ (lt-ltb _ _ h)

  first-at : (m : TraceLayout) → m ≡ trace_layout f t → get_or m.first k 0 ≡ trace_place f t k + 2
  unfolding first_of
  first-at m e =
      ap (λ (l : TraceLayout). get_or l.first k 0) e
      ∙ four (first_of f t) k 0 (omega (arith, ok.few))
      ∙ pick_true _ _ _ (lt-ltb _ _ h)
      ∙ rw (zero-mul (record_size f k), add-zero)

  -- the task of core k, part by part
  pub task-is : (l : Layout) (m : TraceLayout) (reads writes : ℕ) → l ≡ layout_of f → m ≡ trace_layout f t → reads ≡ exchange_bytes f (4 + k) → writes ≡ exchange_bytes f k
      → record {
        reads = reads;
        writes = writes;
        records = get_or m.first k 0;
        count = get_or m.count k 0;
        layout = get_or l.core k no_core;
      } ≡ core_task f t k
  unfolding core_task
  task-is l m reads writes e w a b =
      rw (
        layout-at l e,
        first-at m w,
        count_at_lem m w,
        a ∙ sym (length-reads f k (omega (arith, ok.few))),
        b ∙ sym (length-writes f k (omega (arith, ok.few))),
      )
