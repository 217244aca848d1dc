-- A core in line sees at most n - 1 exchanges of others end before it is first and the semaphore is free (specs/Fair): each such end brings it one place
-- nearer, and the holder and those in line are different cores below n. In order: how far a core is from its turn; lists of steps.
-- Not here: lists of core numbers (`Line`), that the line stays fit (`Lined`). Assumes nothing.
use mathlib.Core.Path.{◌≡◌, refl, ap}
use mathlib.Core.Logic.{◌≢◌, ◌⊎◌, inl, inr}
use mathlib.Core.Bool.{Bool, true, false, not}
use mathlib.Core.List.{List, [], ◌∷◌, ◌++◌}
use Prim.Native.Nat.{ℕ, zero, suc, ◌+◌, ◌-◌, ◌≤◌, ◌<◌}
use native.Mathlib.Nat.{le_refl, le_trans}
use native.Mathlib.Omega.{arith}
use lib.Dec.{T, eqb}
use lib.ListN.{length, get_or, set, drop}
use lib.Seq.{get_or-set_same}
use Rattle.protocol.specs.Registers.{read_acquired, byte_copied, read_released, write_acquired, write_released}
use Rattle.protocol.specs.State.{Core, State, Task, absent}
use Rattle.protocol.specs.Step.{turn_in, released, Taking, read_taken, read_next, read_done, write_taken, write_next, write_done, in_line, joined, run, step, taking_of}
use Rattle.verdict.specs.Verdict.{pick, both}
use Rattle.verdict.proofs.Truth.{fails}
use Rattle.protocol.specs.Laws.{Laws, FreshStart, Holding, SemaphoreHeld}
use Rattle.protocol.specs.Fair.{first_in, first_in_line, releases, end_of, ends_seen, Fair}
use Rattle.protocol.proofs.View.{Wants as ViewWants, after, at, Moves, rests, waits, takes_read, reads_on, reads_last, runs, takes_write, writes_on, writes_last, view, inside}
use borrow.Author.Tests.{ne_eqb as eqb-off}
use Rattle.protocol.proofs.Steps.{run-append, lengths-run, held-step, held-run}
pub use Rattle.protocol.proofs.Line.{line-cases, few-below}
use Rattle.protocol.proofs.Line.{line-more}
use Rattle.protocol.proofs.Lined.{Wants, Lined, lined-run, lined-fresh}

-- ---- how far core k is from being first with the semaphore free

abbrev ahead : ℕ → List ℕ → ℕ
ahead k [] = 0
ahead k (x ∷ xs) = pick (eqb x k) 0 (suc (ahead k xs))

abbrev busy : ℕ → ℕ
busy zero = 0
busy (suc h) = 1

abbrev far : ℕ → State → ℕ
far k s = ahead k s.semaphore.line + busy s.semaphore.holder

ahead-less : (k : ℕ) (xs : List ℕ) → T (in_line k xs) → ahead k xs < length xs
unfolding pick
ahead-less k [] h = absurd h
ahead-less k (x ∷ xs) h = go (eqb x k) h (ahead-less k xs)
  where
    go : (b : Bool) → T (pick b true (in_line k xs)) → (T (in_line k xs) → ahead k xs < length xs) → pick b 0 (suc (ahead k xs)) < suc (length xs)
    go true h again = omega arith
    go false h again = omega (arith, again h)

ahead-append : (k j : ℕ) (xs : List ℕ) → T (in_line k xs) → ahead k (xs ++ (j ∷ [])) ≡ ahead k xs
unfolding pick
ahead-append k j [] h = absurd h
ahead-append k j (x ∷ xs) h = go (eqb x k) h (ahead-append k j xs)
  where
    go : (b : Bool) → T (pick b true (in_line k xs)) → (T (in_line k xs) → ahead k (xs ++ (j ∷ [])) ≡ ahead k xs) → pick b 0 (suc (ahead k (xs ++ (j ∷ [])))) ≡ pick b 0 (suc (ahead k xs))
    go true h again = refl
    go false h again = ap suc (again h)

joined_in : (k j : ℕ) (xs : List ℕ) → T (in_line k xs) → T (in_line k (joined j xs)) × (ahead k (joined j xs) ≡ ahead k xs)
unfolding pick
joined_in k j xs h = go (in_line j xs)
  where
    go : (b : Bool) → T (in_line k (pick b xs (xs ++ (j ∷ [])))) × (ahead k (pick b xs (xs ++ (j ∷ []))) ≡ ahead k xs)
    go true = (h, refl)
    go false = (line-more k j xs h, ahead-append k j xs h)

-- another core takes the free semaphore: it was first, and k is one place nearer
moved_up : (h : ℕ) (q : List ℕ) (j k : ℕ) → turn_in h q j ≡ true → first_in k h q ≡ false → T (in_line k q) → T (in_line k (drop 1 q)) × (ahead k (drop 1 q) + 1 ≤ ahead k q + busy h)
unfolding pick
moved_up zero [] j k u f w = absurd w
moved_up zero (x ∷ xs) j k u f w = (rw f at w, rw f (omega arith))
moved_up (suc h) q j k u f w = let z : ◌≡◌ {A = ℕ} 0 1 = cc in absurd (omega arith)

end-most : (b : Bool) → pick b 1 0 ≤ 1
unfolding pick
end-most true = le_refl 1
end-most false = omega arith

record Nearer (k j : ℕ) (s s' : State) : Type 0 where
  in-line : T (in_line k s'.semaphore.line)
  less : end_of k j s s' + far k s' ≤ far k s

module _ (t : Task) (l : Laws t) (k j : ℕ) (s : State) (hd : SemaphoreHeld s) (stands : T (in_line k s.semaphore.line)) (later : first_in_line k s ≡ false) where
  there : (c : Core) → j < length s.plant.cores → get_or (set s.plant.cores j c) j absent ≡ c
  there c i = get_or-set_same s.plant.cores j c absent i

  -- a step that ends no exchange
  none-ends : (c : Core) (sh : List ℕ) (h : ℕ) (q : List ℕ) → j < length s.plant.cores → releases (at s j).registers.mode c.registers.mode ≡ false → T (in_line k q) → ahead k q + busy h ≤ far k s → Nearer k j s (after s j c sh record { holder = h; line = q })
  unfolding pick
  none-ends c sh h q i e f b = record { in-line = f; less = rw (there c i, e) (omega arith) }

  -- a release
  one-ends : (c : Core) (sh : List ℕ) → s.semaphore.holder ≡ suc j → Nearer k j s (after s j c sh (released s.semaphore))
  one-ends c sh e = record { in-line = stands; less = rw e (omega (arith, end-most (both (releases (at s j).registers.mode (get_or (set s.plant.cores j c) j absent).registers.mode) (not (eqb j k))))) }

  -- a step that changes no core
  no-core : (q : List ℕ) (h : ℕ) → releases (at s j).registers.mode (at s j).registers.mode ≡ false → T (in_line k q) → ahead k q + busy h ≤ far k s → Nearer k j s record { plant = s.plant; semaphore = record { holder = h; line = q } }
  unfolding pick
  no-core q h e f b = record { in-line = f; less = rw e (omega arith) }

  still-ends : (at s j).registers.mode ≢ 1 → (at s j).registers.mode ≢ 4 → (m : ℕ) → releases (at s j).registers.mode m ≡ false
  unfolding pick
  still-ends a b m = rw (eqb-off (at s j).registers.mode 1 a, eqb-off (at s j).registers.mode 4 b)

  near_step : (s' : State) (ts : List Taking) → Moves t j s s' ts → Nearer k j s s'
  unfolding read_taken read_next read_done write_taken write_next write_done read_acquired byte_copied read_released write_acquired write_released pick
  near_step s' ts (rests z) = no-core s.semaphore.line s.semaphore.holder (still-ends z.still.0 z.still.2 (at s j).registers.mode) stands (le_refl _)
  near_step s' ts (waits i z u) = no-core (joined j s.semaphore.line) s.semaphore.holder (go z) (joined_in k j s.semaphore.line stands).0 (omega (arith, (joined_in k j s.semaphore.line stands).1))
    where
      go : ViewWants t j s → releases (at s j).registers.mode (at s j).registers.mode ≡ false
      go (inl e) = rw e.0
      go (inr e) = rw e
  near_step s' ts (takes_read r rs i f u e d) = none-ends _ _ (suc j) (drop 1 s.semaphore.line) i (rw e) (moved_up s.semaphore.holder s.semaphore.line j k u later stands).0 (moved_up s.semaphore.holder s.semaphore.line j k u later stands).1
  near_step s' ts (reads_on m ms i e d) = none-ends _ _ s.semaphore.holder s.semaphore.line i (rw e) stands (le_refl _)
  near_step s' ts (reads_last i e d) = one-ends _ _ (hd.held j (inl e))
  near_step s' ts (runs i e) = none-ends _ _ s.semaphore.holder s.semaphore.line i (rw e) stands (le_refl _)
  near_step s' ts (takes_write i f u e) = none-ends _ _ (suc j) (drop 1 s.semaphore.line) i (rw e) (moved_up s.semaphore.holder s.semaphore.line j k u later stands).0 (moved_up s.semaphore.holder s.semaphore.line j k u later stands).1
  near_step s' ts (writes_on m ms i e d) = none-ends _ _ s.semaphore.holder s.semaphore.line i (rw e) stands (le_refl _)
  near_step s' ts (writes_last i e d) = one-ends _ _ (hd.held j (inr e))

-- ---- lists of steps

seen-far : (t : Task) → Laws t → (k : ℕ) (js : List ℕ) (s : State) → SemaphoreHeld s → T (in_line k s.semaphore.line) → ends_seen t k js s ≤ far k s
unfolding pick
seen-far t l k [] s hd f = omega arith
seen-far t l k (j ∷ js) s hd f =
    go (first_in_line k s) refl (seen-far t l k js (step t j s) (held-step t l j s hd))
  where
    go : (b : Bool) → first_in_line k s ≡ b → (T (in_line k (step t j s).semaphore.line) → ends_seen t k js (step t j s) ≤ far k (step t j s)) → pick b 0 (end_of k j s (step t j s) + ends_seen t k js (step t j s)) ≤ far k s
    go true e again = omega arith
    go false e again =
        let n : Nearer k j s (step t j s) = near_step t l k j s hd f e (step t j s) (taking_of t j s) (view t j s) in
        omega (arith, again n.in-line, n.less)

-- a core in line is at most n - 1 exchanges from being first with the semaphore free
far-most : (t : Task) (k : ℕ) (s : State) → Lined t s → T (in_line k s.semaphore.line) → far k s ≤ length s.plant.cores - 1
far-most t k s x f = go s.semaphore.holder refl
  where
    n : ℕ
    n = length s.plant.cores

    out : (j : ℕ) → s.semaphore.holder ≡ suc j → T (in_line j s.semaphore.line) → ⊥
    out j e g = neither (x.held.holding j e) (x.fit.modes j g)
      where
        neither : Holding (at s j) → Wants (at s j) → ⊥
        neither (inl a) (inl b) = omega arith
        neither (inl a) (inr b) = omega arith
        neither (inr a) (inl b) = omega arith
        neither (inr a) (inr b) = omega arith

    within : (j : ℕ) → Holding (at s j) → j < length s.plant.cores
    within j (inl e) = inside s.plant.cores j 1 e (omega arith)
    within j (inr e) = inside s.plant.cores j 4 e (omega arith)

    all : (j : ℕ) → s.semaphore.holder ≡ suc j → (i : ℕ) → (j ≡ i) ⊎ T (in_line i s.semaphore.line) → i < length s.plant.cores
    all j e i (inl g) = rw (← g) (within j (x.held.holding j e))
    all j e i (inr g) = x.fit.below i g

    go : (h : ℕ) → s.semaphore.holder ≡ h → ahead k s.semaphore.line + busy h ≤ length s.plant.cores - 1
    go zero e = omega (arith, ahead-less k s.semaphore.line f, few-below (length s.plant.cores) s.semaphore.line x.fit.once x.fit.below)
    go (suc j) e =
        let b : length (j ∷ s.semaphore.line) ≤ length s.plant.cores = few-below (length s.plant.cores) (j ∷ s.semaphore.line) (fails _ (out j e), x.fit.once) (λ i g. all j e i (line-cases i j s.semaphore.line g)) in
        omega (arith, ahead-less k s.semaphore.line f)

module _ (t : Task) (l : Laws t) (s : State) (fresh : FreshStart s) where
  -- at any moment at which core k stands in the line
  pub few-at : (before after : List ℕ) (k : ℕ) → T (in_line k (run t before s).semaphore.line) → ends_seen t k after (run t before s) ≤ length s.plant.cores - 1
  few-at before after k f =
      le_trans (seen-far t l k after (run t before s) (held-run t l s fresh before) f)
      (rw (lengths-run t l before s).cores at (far-most t k (run t before s) (lined-run t l before s (lined-fresh t s fresh)) f))

  pub fair-holds : (ks : List ℕ) → Fair t s ks
  fair-holds ks = record {
    fit = (lined-run t l ks s (lined-fresh t s fresh)).fit;
    few = λ k x. joins k x.before x.after x.is-in;
  }
    where
      joins : (k : ℕ) (before after : List ℕ) → in_line k (step t k (run t before s)).semaphore.line ≡ true → ends_seen t k after (step t k (run t before s)) ≤ length s.plant.cores - 1
      joins k before after e = rw (run-append t before (k ∷ []) s) at (few-at (before ++ (k ∷ [])) after k (rw (run-append t before (k ∷ []) s, e) tt))
