-- The line of a caller's semaphore. In order: input records that are left; what the test of a line says; the test, entry by entry. Assumes nothing.
use mathlib.Core.Path.{◌≡◌, refl, sym, ap, ◌∙◌, subst}
use mathlib.Core.Logic.{◌≢◌, ◌⊎◌, inl, inr}
use mathlib.Core.Bool.{Bool, true, false, not}
use mathlib.Core.List.{List, [], ◌∷◌}
use Prim.Native.Nat.{ℕ, ◌+◌, ◌≤◌, ◌<◌}
use native.Mathlib.Omega.{arith}
use borrow.Author.Tests.{not-true, le-leb, lt-leb}
use lib.Dec.{T, ltb}
use lib.ListN.{length, get_or, drop, length-drop, drop_of_length-le}
use Rattle.protocol.specs.declared.Registers.{Registers}
use Rattle.protocol.specs.Step.{in_line}
use Rattle.protocol.specs.Fair.{Once}
use Rattle.protocol.proofs.Line.{line-here, line_on, line-cases}
use Rattle.verdict.specs.Verdict.{both}
use Rattle.semaphore.specs.Line.{semaphore_of}
use Rattle.semaphore.proofs.Laws.{line-end, line-entry}
use Rattle.records.specs.File.{cores}
use Rattle.taskset.specs.Task.{sample_at, samples_of}
use Rattle.taskset.specs.Trace.{record_count}
use Rattle.taskset.proofs.Accepted.{length-listed}
use Rattle.states.specs.declared.Held.{Held}
use Rattle.states.specs.Machine.{no_registers}
use Rattle.states.specs.Task.{task_of}
use Rattle.states.specs.declared.CoreTask.{CoreTask}
use Rattle.states.specs.Tasks.{core_task}
use Rattle.states.specs.Fit.{may_wait, line_fit_in, line_fit}
use Rattle.states.proofs.Says.{Says, known, says_less, says-equal, says_both, says-either, fails, passes}

-- ---- input records that are left

samples-count : (f t : List ℕ) (k : ℕ) → length ((task_of f t).samples k) ≡ record_count f t k
unfolding task_of samples_of
samples-count f t k = length-listed (sample_at f t k) (record_count f t k) 0

pub records-left : (f t : List ℕ) (k i : ℕ) → i < record_count f t k → drop i ((task_of f t).samples k) ≢ []
records-left f t k i h e =
    let n : length (drop i ((task_of f t).samples k)) ≡ 0 = ap length e in
    omega (arith, length-drop i ((task_of f t).samples k), samples-count f t k)

pub left-records : (f t : List ℕ) (k i : ℕ) → drop i ((task_of f t).samples k) ≢ [] → i < record_count f t k
left-records f t k i n = go (known (says_less i (record_count f t k)))
  where
    go : (i < record_count f t k) ⊎ (i < record_count f t k → ⊥) → i < record_count f t k
    go (inl h) = h
    go (inr m) = absurd (n (drop_of_length-le ((task_of f t).samples k) {i = i} (omega (arith, m, samples-count f t k))))

-- ---- what the test of a line says

-- core k may stand in the line of a state
abbrev pub MayWait : ℕ → Registers → Type 0
MayWait count r = ((r.mode ≡ 0) ⊎ (r.mode ≡ 3)) × (r.cycles < count)

says-may : (count : ℕ) (r : Registers) → Says (may_wait count r) (MayWait count r)
unfolding may_wait
says-may count r = says_both (says-either (says-equal _ _) (says-equal _ _)) (says_less _ _)

says-not : (b : Bool) → Says (not b) (b ≡ false)
says-not b = record { tested = not-true b; holds = λ e. rw e }

module _ (f t : List ℕ) (s : Held) where
  abbrev pub Stands : ℕ → Type 0
  Stands k = (k < cores f) × MayWait (record_count f t k) (get_or s.cores k no_registers)

  pub says-line : (xs : List ℕ) → Says (line_fit_in f t s xs) (Once xs × ((j : ℕ) → T (in_line j xs) → Stands j))
  says-line [] = record { tested = λ e. (tt, λ j h. absurd h); holds = λ x. refl }
  says-line (k ∷ ks) =
      let rest = says-line ks in
      let all = says_both (says-not (in_line k ks)) (says_both (says_less k (cores f)) (says_both (says-may (record_count f t k) (get_or s.cores k no_registers)) rest)) in
      record {
        tested = λ e.
            let x = all.tested e in
            ((x.0, x.1.1.1.0), λ j h. each (x.1.0, x.1.1.0) x.1.1.1.1 j (line-cases j k ks h));
        holds = λ x.
            let y = x.1 k (line-here k ks) in
            all.holds (x.0.0, (y.0, (y.1, (x.0.1, λ j h. x.1 j (line_on j k ks h)))));
      }
    where
      each : Stands k → ((j : ℕ) → T (in_line j ks) → Stands j) → (j : ℕ) → (k ≡ j) ⊎ T (in_line j ks) → Stands j
      each y z j (inl e) = subst Stands e y
      each y z j (inr h) = z j h

-- ---- the test, entry by entry

module _ (f t : List ℕ) (s : Held) where
  abbrev entries : List ℕ
  entries = (semaphore_of s.semaphore).line

  -- the entries from i on are fit exactly if all are
  pub record Fitting (i : ℕ) : Type 0 where
    pub few : s.semaphore.waiting ≤ 4
    pub same : line_fit_in f t s entries ≡ line_fit_in f t s (drop i entries)

  -- the test of core k, the entries from i on being left
  abbrev pub entry_fit : ℕ → ℕ → Bool
  entry_fit i k = both (not (in_line k (drop i entries))) (both (ltb k (cores f)) (both (may_wait (record_count f t k) (get_or s.cores k no_registers)) (line_fit_in f t s (drop i entries))))

  pub fitting-none : s.semaphore.waiting ≤ 4 → Fitting 0
  fitting-none h = record { few = h; same = refl }

  pub fitting-at : (i : ℕ) → Fitting i → i < s.semaphore.waiting → length s.semaphore.line ≡ 4 → line_fit_in f t s entries ≡ entry_fit (i + 1) (get_or s.semaphore.line i 0)
  fitting-at i x h n = x.same ∙ ap (line_fit_in f t s) (line-entry s.semaphore.line s.semaphore.waiting i h (omega (arith, x.few)))

  pub fitting-stop : (i : ℕ) → Fitting i → i < s.semaphore.waiting → length s.semaphore.line ≡ 4 → false ≡ entry_fit (i + 1) (get_or s.semaphore.line i 0) → false ≡ line_fit f t s
  unfolding line_fit
  fitting-stop i x h n e = passes (le-leb _ _ x.few) (e ∙ sym (fitting-at i x h n))

  pub fitting-more : (i : ℕ) → Fitting i → i < s.semaphore.waiting → length s.semaphore.line ≡ 4
      → line_fit_in f t s (drop (i + 1) entries) ≡ entry_fit (i + 1) (get_or s.semaphore.line i 0) → Fitting (i + 1)
  fitting-more i x h n e = record { few = x.few; same = fitting-at i x h n ∙ sym e }

  pub fitting-end : (i : ℕ) → Fitting i → s.semaphore.waiting ≤ i → true ≡ line_fit f t s
  unfolding line_fit
  fitting-end i x h = passes (le-leb _ _ x.few) (sym (x.same ∙ ap (line_fit_in f t s) (line-end s.semaphore.line s.semaphore.waiting i h)))

  pub too_long_lem : 4 < s.semaphore.waiting → false ≡ line_fit f t s
  unfolding line_fit
  too_long_lem h = fails _ (lt-leb _ _ h)

-- so many records as the task has
pub may-by : (f t : List ℕ) (k : ℕ) (task : CoreTask) (r : Registers) → task ≡ core_task f t k → may_wait task.count r ≡ may_wait (record_count f t k) r
unfolding core_task
may-by f t k task r e = rw e
