-- `next-core`: what the answer on the next core says of steps. A fit state's semaphore is held only by a core in an exchange, which moves; so
-- where no core moves it is free, nobody stands in line, and none waits. In order: a core and its step; the first; none. Assumes nothing.
use mathlib.Core.Path.{◌≡◌, refl, sym, ap, ◌∙◌}
use mathlib.Core.Logic.{◌⊎◌, inl, inr}
use mathlib.Core.Bool.{Bool, true, false}
use mathlib.Core.List.{List, [], ◌∷◌}
use Prim.Native.Nat.{ℕ, zero, suc, ◌≤◌, ◌<◌}
use native.Mathlib.Omega.{arith}
use borrow.Author.Tests.{ltb-true, ltb-false, lt-ltb, eq-eqb}
use lib.Dec.{T, ltb}
use lib.ListN.{length, get_or}
use Rattle.verdict.specs.Verdict.{pick}
use Rattle.verdict.proofs.Verdict.{absurd-bool, both-not, either_true}
use Rattle.verdict.proofs.Truth.{tested}
use Rattle.protocol.specs.State.{Core as Whole, State, absent, mode}
use Rattle.protocol.specs.Step.{in_line, turn, step}
use Rattle.protocol.specs.Laws.{Holding}
use Rattle.protocol.proofs.View.{at, inside}
use Rattle.protocol.proofs.Line.{line-here}
use Rattle.records.specs.File.{cores}
use Rattle.taskset.specs.Task.{sample_at, samples_of}
use Rattle.taskset.specs.Trace.{record_count}
use Rattle.taskset.proofs.Accepted.{length-listed, listed_at}
use Rattle.states.specs.Set.{AcceptedSet}
use Rattle.states.specs.Fit.{Fit}
use Rattle.states.specs.Task.{task_of}
use Rattle.states.specs.Machine.{no_registers, core_in, state_in, state_of}
use Rattle.states.specs.declared.Held.{Held}
use Rattle.states.proofs.Line.{left-records}
use Rattle.states.proofs.Executes.{executes}
use Rattle.table.specs.Table.{served_or_joins, can_move_in, can_move, can_move_at, round_from, next_moving}
use Rattle.table.specs.Next.{FirstToMove, AtRest, DoneAt, Done, NextCore}
use Rattle.std.proofs.Common.{Some, None}
use Rattle.table.proofs.Moves.{Seen, moving-changes, changing-moves, resting-stays, staying-rests, step-seen}
use Rattle.table.proofs.Ring.{found, none_found, all-passed, distance-to, round-inside, given-last}

module _ (f t : List ℕ) (h : Held) (d sh : List ℕ) (ok : AcceptedSet f t) (fit : Fit f t (state_of f h d sh)) where
  abbrev whole : State
  whole = state_of f h d sh

  -- ---- a core and its step

  registers-in : (k : ℕ) → k < cores f → (at whole k).registers ≡ get_or h.cores k no_registers
  unfolding state_in
  registers-in k l = ap (λ (c : Whole). c.registers) (listed_at (core_in f h.cores h.places h.offsets d) (cores f) k absent l)

  samples-count : (k : ℕ) → length ((task_of f t).samples k) ≡ record_count f t k
  unfolding task_of samples_of
  samples-count k = length-listed (sample_at f t k) (record_count f t k) 0

  seen : (k : ℕ) → k < cores f → Seen (can_move_at f t h k) whole (step (task_of f t) k whole)
  unfolding can_move_at state_in
  seen k l = rw (← samples-count k, ← registers-in k l) (step-seen (task_of f t) k whole (executes f t ok).laws)

  -- the test by the mode
  moves-in : (k : ℕ) → k < cores f → (m : ℕ) → mode (at whole k) ≡ m → can_move_at f t h k ≡ can_move_in m (served_or_joins whole.semaphore k) (record_count f t k) (at whole k).registers.cycles
  unfolding can_move_at can_move state_in
  moves-in k l m e = rw (← registers-in k l, e)

  -- ---- the first

  module _ (given : ℕ) (g : given < cores f) where
    first-core : (j : ℕ) → next_moving f t h given ≡ Some j → FirstToMove (task_of f t) (cores f) whole given j
    unfolding next_moving
    first-core j e =
        let x = found (can_move_at f t h) (round_from (cores f) given) (cores f) 1 j e in
        let i : j < cores f = rw x.is (round-inside (cores f) given x.number g) in
        record {
          inside = i;
          changes = moving-changes (seen j i) (rw x.is x.can);
          distance = x.number;
          least = x.from;
          most = omega (arith, x.below);
          there = x.is;
          passed = λ m a b. resting-stays (seen (round_from (cores f) given m) (round-inside (cores f) given m g)) (x.passed m a b);
          given-last = λ q. given-last (cores f) given x.number g x.from (omega (arith, x.below)) (sym x.is ∙ q);
        }

    -- ---- none

    none_rest : next_moving f t h given ≡ None → AtRest (task_of f t) (cores f) whole
    unfolding next_moving
    none_rest e k l =
        let x = distance-to (cores f) given k g l in
        resting-stays (seen k l) (rw x.there at (none_found (can_move_at f t h) (round_from (cores f) given) (cores f) 1 e x.distance x.least (omega (arith, x.most))))

    rest-none : AtRest (task_of f t) (cores f) whole → next_moving f t h given ≡ None
    unfolding next_moving
    rest-none s =
        all-passed (can_move_at f t h) (round_from (cores f) given) (cores f) 1
        (λ e a b. let l = round-inside (cores f) given e g in staying-rests (seen (round_from (cores f) given e) l) (s (round_from (cores f) given e) l))

  -- where no step changes anything the semaphore is free: its holder, in an exchange, would move
  free : AtRest (task_of f t) (cores f) whole → (j : ℕ) → whole.semaphore.holder ≡ j → j ≡ 0
  unfolding pick
  free s zero e = refl
  free s (suc j) e = absurd (go (fit.held.holding j e))
    where
      there : (m : ℕ) → mode (at whole j) ≡ m → m < 5 → j < cores f
      there m q b = rw fit.table at (inside whole.plant.cores j m q b)

      never : (l : j < cores f) → can_move_at f t h j ≡ true → ⊥
      never l q = absurd-bool (sym (staying-rests (seen j l) (s j l)) ∙ q)

      go : Holding (at whole j) → ⊥
      go (inl q) = let l = there 1 q (omega arith) in never l (moves-in j l 1 q)
      go (inr q) = let l = there 4 q (omega arith) in never l (moves-in j l 4 q)

  -- and the line is empty: its first core would take it
  nobody : AtRest (task_of f t) (cores f) whole → (q : List ℕ) → whole.semaphore.line ≡ q → (k : ℕ) → T (in_line k q) → ⊥
  unfolding pick
  nobody s [] e k i = i
  nobody s (y ∷ ys) e k i = go (fit.line.modes y here)
    where
      here : T (in_line y whole.semaphore.line)
      here = rw e (line-here y ys)

      low : y < cores f
      low = rw fit.table at (fit.line.below y here)

      never : can_move_at f t h y ≡ true → ⊥
      never q = absurd-bool (sym (staying-rests (seen y low) (s y low)) ∙ q)

      goes : served_or_joins whole.semaphore y ≡ true
      goes = rw (free s whole.semaphore.holder refl, e, eq-eqb y y refl)

      go : (mode (at whole y) ≡ 0) ⊎ (mode (at whole y) ≡ 3) → ⊥
      go (inl q) = never (moves-in y low 0 q ∙ rw (goes, lt-ltb _ _ (left-records f t y (at whole y).registers.cycles (fit.line.records y here))))
      go (inr q) = never (moves-in y low 3 q ∙ goes)

  -- so whoever would have the semaphore takes it
  go_on : AtRest (task_of f t) (cores f) whole → (k : ℕ) → served_or_joins whole.semaphore k ≡ true
  go_on s k = go (in_line k whole.semaphore.line) refl
    where
      go : (b : Bool) → in_line k whole.semaphore.line ≡ b → served_or_joins whole.semaphore k ≡ true
      go true e = absurd (nobody s whole.semaphore.line refl k (tested _ e))
      go false e = rw e (either_true (turn whole.semaphore k))

  rest-done : AtRest (task_of f t) (cores f) whole → Done f t whole
  unfolding pick
  rest-done s k l = go (mode (at whole k)) refl
    where
      no : can_move_at f t h k ≡ true → ⊥
      no q = absurd-bool (sym (staying-rests (seen k l) (s k l)) ∙ q)

      spent : mode (at whole k) ≡ 0 → (b : Bool) → ltb (at whole k).registers.cycles (record_count f t k) ≡ b → (at whole k).registers.cycles ≡ record_count f t k
      spent e true q = absurd (no (moves-in k l 0 e ∙ rw (go_on s k, q)))
      spent e false q =
          let left : record_count f t k ≤ (at whole k).registers.cycles = ltb-false _ _ q in
          omega (arith, (fit.each k l).cycles)

      go : (m : ℕ) → mode (at whole k) ≡ m → DoneAt f t whole k
      go zero e = inr (e, spent e _ refl)
      go (suc zero) e = absurd (no (moves-in k l 1 e))
      go (suc (suc zero)) e = absurd (no (moves-in k l 2 e))
      go (suc (suc (suc zero))) e = absurd (no (moves-in k l 3 e ∙ go_on s k))
      go (suc (suc (suc (suc zero)))) e = absurd (no (moves-in k l 4 e))
      go (suc (suc (suc (suc (suc zero))))) e = inl e
      go (suc (suc (suc (suc (suc (suc m)))))) e = absurd (let z : ⊥ = omega (arith, (fit.each k l).modes) in z)

  done-rest : Done f t whole → AtRest (task_of f t) (cores f) whole
  unfolding pick
  done-rest x k l = resting-stays (seen k l) (go (x k l))
    where
      go : DoneAt f t whole k → can_move_at f t h k ≡ false
      go (inl e) = moves-in k l 5 e
      go (inr y) =
          moves-in k l 0 y.0
          ∙ both-not (served_or_joins whole.semaphore k) (ltb (at whole k).registers.cycles (record_count f t k))
          (λ a b. let left : (at whole k).registers.cycles < record_count f t k = ltb-true _ _ b in omega (arith, y.1))

  -- ---- all of it

  pub next-core : (given : ℕ) → given < cores f → NextCore f t h whole given
  next-core given g = record {
    moves-exactly = λ k l. (moving-changes (seen k l), changing-moves (seen k l));
    next-is-first = first-core given g;
    none-means-rest = (none_rest given g, rest-none given g);
    none-means-done = (λ e. rest-done (none_rest given g e), λ x. rest-none given g (done-rest x));
    rest-means-done = (rest-done, done-rest);
  }
