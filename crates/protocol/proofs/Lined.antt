-- The line stays fit (specs/Fair): it names no core twice, none from n on, none that is not in mode 0 or 3, and none that is out of records.
-- In order: who joins and leaves; one step; lists of steps; the fresh state.
-- Not here: lists of core numbers alone (`Line`), how long a core stands in line (`Fair`). Assumes nothing.
use mathlib.Core.Path.{◌≡◌, refl, sym, ◌∙◌, subst}
use mathlib.Core.Logic.{◌≢◌, ◌⊎◌, inl, inr}
use mathlib.Core.Bool.{Bool, true, false}
use mathlib.Core.List.{List, [], ◌∷◌, ◌++◌}
use Prim.Native.Nat.{ℕ, zero, suc, ◌≤◌, ◌<◌}
use native.Mathlib.Omega.{arith}
use lib.Dec.{T, eqb→eq}
use lib.ListN.{length, get_or, set, drop, length-set}
use Rattle.protocol.specs.Registers.{read_acquired, byte_copied, read_released, write_acquired, write_released}
use Rattle.protocol.specs.State.{Core, State, Task, absent}
use Rattle.protocol.specs.Step.{turn_in, Taking, read_taken, read_next, read_done, write_taken, write_next, write_done, in_line, joined, wait, run, step, taking_of}
use Rattle.verdict.specs.Verdict.{pick}
use Rattle.protocol.specs.Laws.{Laws, FreshStart, SemaphoreHeld}
use Rattle.protocol.specs.Fair.{Once, FitLine}
use Rattle.protocol.proofs.View.{Wants as ViewWants, after, at, Moves, rests, waits, takes_read, reads_on, reads_last, runs, takes_write, writes_on, writes_last, view, inside, filled}
use Rattle.protocol.proofs.Steps.{each, held-step, held-fresh}
use Rattle.protocol.proofs.Line.{false-T, line_on, line-append, once-append}

abbrev pub Wants : Core → Type 0
Wants c = (c.registers.mode ≡ 0) ⊎ (c.registers.mode ≡ 3)

pub joined-cases : (k j : ℕ) (xs : List ℕ) → T (in_line k (joined j xs)) → T (in_line k xs) ⊎ (j ≡ k)
unfolding pick
joined-cases k j xs h = go (in_line j xs) h
  where
    go : (b : Bool) → T (in_line k (pick b xs (xs ++ (j ∷ [])))) → T (in_line k xs) ⊎ (j ≡ k)
    go true h = inl h
    go false h = line-append k j xs h

pub joined_once : (j : ℕ) (xs : List ℕ) → Once xs → Once (joined j xs)
unfolding pick
joined_once j xs o = go (in_line j xs) refl
  where
    go : (b : Bool) → in_line j xs ≡ b → Once (pick b xs (xs ++ (j ∷ [])))
    go true e = o
    go false e = once-append j xs o e

-- a core that takes the semaphore leaves the line
pub leaves : (h : ℕ) (q : List ℕ) (k : ℕ) → Once q → turn_in h q k ≡ true → T (in_line k (drop 1 q)) → ⊥
leaves zero [] k o u f = f
leaves zero (x ∷ xs) k o u f = let e : x ≡ k = eqb→eq x k (rw u tt) in false-T (in_line x xs) o.0 (rw e f)
leaves (suc h) q k o u f = let z : ◌≡◌ {A = ℕ} 0 1 = cc in omega arith

pub drop-once : (q : List ℕ) → Once q → Once (drop 1 q)
drop-once [] o = tt
drop-once (x ∷ xs) o = o.1

pub drop-in : (j : ℕ) (q : List ℕ) → T (in_line j (drop 1 q)) → T (in_line j q)
drop-in j [] f = f
drop-in j (x ∷ xs) f = line_on j x xs f

-- a core in modes 1 to 4 has records left
abbrev pub Supplied : Task → List Core → Type 0
Supplied t cs = (j : ℕ) → 1 ≤ (get_or cs j absent).registers.mode → (get_or cs j absent).registers.mode ≤ 4 → drop (get_or cs j absent).registers.cycles (t.samples j) ≢ []

-- the line is fit, the holder is in an exchange
pub record Lined (t : Task) (s : State) : Type 0 where
  pub fit : FitLine t s
  pub held : SemaphoreHeld s
  pub supplied : Supplied t s.plant.cores

module _ (t : Task) (l : Laws t) (k : ℕ) (s : State) (x : Lined t s) where
  -- core k, which is not in the line q, gets c
  keep-fit : (c : Core) (sh : List ℕ) (h : ℕ) (q : List ℕ) → k < length s.plant.cores
      → Once q → ((j : ℕ) → T (in_line j q) → T (in_line j s.semaphore.line)) → (T (in_line k q) → ⊥) → FitLine t (after s k c sh record { holder = h; line = q })
  keep-fit c sh h q i o sub out = record {
    once = o;
    below = λ j f. rw (length-set s.plant.cores k c) (x.fit.below j (sub j f));
    modes = each (λ j y. T (in_line j q) → Wants y) s.plant.cores k c i (λ f. absurd (out f)) (λ j n f. x.fit.modes j (sub j f));
    records = each (λ j y. T (in_line j q) → drop y.registers.cycles (t.samples j) ≢ []) s.plant.cores k c i (λ f. absurd (out f)) (λ j n f. x.fit.records j (sub j f));
  }

  -- a core in mode 1, 2 or 4 is not in the line
  busy-out : (at s k).registers.mode ≢ 0 → (at s k).registers.mode ≢ 3 → T (in_line k s.semaphore.line) → ⊥
  busy-out a b f = go (x.fit.modes k f)
    where
      go : Wants (at s k) → ⊥
      go (inl e) = a e
      go (inr e) = b e

  fit-wait : Wants (at s k) → ((at s k).registers.mode ≡ 0 → drop (at s k).registers.cycles (t.samples k) ≢ []) → FitLine t (wait k s)
  fit-wait z v = record {
    once = joined_once k s.semaphore.line x.fit.once;
    below = λ j f. member (λ j. j < length s.plant.cores) j f (x.fit.below j) (here z);
    modes = λ j f. member (λ j. Wants (at s j)) j f (x.fit.modes j) z;
    records = λ j f. member (λ j. drop (at s j).registers.cycles (t.samples j) ≢ []) j f (x.fit.records j) (left z);
  }
    where
      member : (P : ℕ → Type 0) (j : ℕ) → T (in_line j (joined k s.semaphore.line)) → (T (in_line j s.semaphore.line) → P j) → P k → P j
      member P j f old new = go (joined-cases j k s.semaphore.line f)
        where
          go : T (in_line j s.semaphore.line) ⊎ (k ≡ j) → P j
          go (inl g) = old g
          go (inr e) = subst P e new

      here : Wants (at s k) → k < length s.plant.cores
      here (inl e) = inside s.plant.cores k 0 e (omega arith)
      here (inr e) = inside s.plant.cores k 3 e (omega arith)

      left : Wants (at s k) → drop (at s k).registers.cycles (t.samples k) ≢ []
      left (inl e) = v e
      left (inr e) = x.supplied k (omega arith) (omega arith)

  wants : ViewWants t k s → Wants (at s k)
  wants (inl e) = inl e.0
  wants (inr e) = inr e

  wants-records : ViewWants t k s → (at s k).registers.mode ≡ 0 → drop (at s k).registers.cycles (t.samples k) ≢ []
  wants-records (inl e) z = e.1
  wants-records (inr e) z = absurd (omega arith)

  pub fit-step : (s' : State) (ts : List Taking) → Moves t k s s' ts → FitLine t s'
  fit-step s' ts (rests z) = x.fit
  fit-step s' ts (waits i z u) = fit-wait (wants z) (wants-records z)
  fit-step s' ts (takes_read r rs i f u e d) = keep-fit _ _ _ (drop 1 s.semaphore.line) i (drop-once s.semaphore.line x.fit.once) (λ j f. drop-in j s.semaphore.line f) (leaves s.semaphore.holder s.semaphore.line k x.fit.once u)
  fit-step s' ts (reads_on m ms i e d) = keep-fit _ _ _ s.semaphore.line i x.fit.once (λ j f. f) (busy-out (omega arith) (omega arith))
  fit-step s' ts (reads_last i e d) = keep-fit _ _ _ s.semaphore.line i x.fit.once (λ j f. f) (busy-out (omega arith) (omega arith))
  fit-step s' ts (runs i e) = keep-fit _ _ _ s.semaphore.line i x.fit.once (λ j f. f) (busy-out (omega arith) (omega arith))
  fit-step s' ts (takes_write i f u e) = keep-fit _ _ _ (drop 1 s.semaphore.line) i (drop-once s.semaphore.line x.fit.once) (λ j f. drop-in j s.semaphore.line f) (leaves s.semaphore.holder s.semaphore.line k x.fit.once u)
  fit-step s' ts (writes_on m ms i e d) = keep-fit _ _ _ s.semaphore.line i x.fit.once (λ j f. f) (busy-out (omega arith) (omega arith))
  fit-step s' ts (writes_last i e d) = keep-fit _ _ _ s.semaphore.line i x.fit.once (λ j f. f) (busy-out (omega arith) (omega arith))

  keep-supplied : (c : Core) → k < length s.plant.cores → (1 ≤ c.registers.mode → c.registers.mode ≤ 4 → drop c.registers.cycles (t.samples k) ≢ []) → Supplied t (set s.plant.cores k c)
  keep-supplied c i mine = each (λ j y. 1 ≤ y.registers.mode → y.registers.mode ≤ 4 → drop y.registers.cycles (t.samples j) ≢ []) s.plant.cores k c i mine (λ j n. x.supplied j)

  supplied-step : (s' : State) (ts : List Taking) → Moves t k s s' ts → Supplied t s'.plant.cores
  unfolding read_taken read_next read_done write_taken write_next write_done read_acquired byte_copied read_released write_acquired write_released pick
  supplied-step s' ts (rests z) = x.supplied
  supplied-step s' ts (waits i z u) = x.supplied
  supplied-step s' ts (takes_read r rs i f u e d) = keep-supplied _ i (λ a b g. filled r rs (sym d ∙ g))
  supplied-step s' ts (reads_on m ms i e d) = keep-supplied _ i (λ a b. x.supplied k (omega arith) (omega arith))
  supplied-step s' ts (reads_last i e d) = keep-supplied _ i (λ a b. x.supplied k (omega arith) (omega arith))
  supplied-step s' ts (runs i e) = keep-supplied _ i (λ a b. rw (l.cycles k (at s k) e) (x.supplied k (omega arith) (omega arith)))
  supplied-step s' ts (takes_write i f u e) = keep-supplied _ i (λ a b. x.supplied k (omega arith) (omega arith))
  supplied-step s' ts (writes_on m ms i e d) = keep-supplied _ i (λ a b. x.supplied k (omega arith) (omega arith))
  supplied-step s' ts (writes_last i e d) = keep-supplied _ i (λ a b. absurd (omega arith))

  lined-step : Lined t (step t k s)
  lined-step = record { fit = fit-step (step t k s) (taking_of t k s) (view t k s); held = held-step t l k s x.held; supplied = supplied-step (step t k s) (taking_of t k s) (view t k s) }

pub lined-run : (t : Task) → Laws t → (ks : List ℕ) (s : State) → Lined t s → Lined t (run t ks s)
lined-run t l [] s x = x
lined-run t l (k ∷ ks) s x = lined-run t l ks (step t k s) (lined-step t l k s x)

nobody-in : (q : List ℕ) → q ≡ [] → (j : ℕ) → T (in_line j q) → ⊥
nobody-in q e j f = rw e at f

pub lined-fresh : (t : Task) (s : State) → FreshStart s → Lined t s
lined-fresh t s f = record {
  fit = record {
    once = rw f.empty tt;
    below = λ j h. absurd (nobody-in s.semaphore.line f.empty j h);
    modes = λ j h. absurd (nobody-in s.semaphore.line f.empty j h);
    records = λ j h. absurd (nobody-in s.semaphore.line f.empty j h);
  };
  held = held-fresh s f;
  supplied = λ j a b. absurd (idle j a b (f.between j));
}
  where
    idle : (j : ℕ) → 1 ≤ (at s j).registers.mode → (at s j).registers.mode ≤ 4 → ((at s j).registers.mode ≡ 0) ⊎ ((at s j).registers.mode ≡ 5) → ⊥
    idle j a b (inl e) = omega arith
    idle j a b (inr e) = omega arith
