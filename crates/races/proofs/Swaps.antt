-- The third claim of specs/Footprint: steps of two cores that do not both touch the semaphore can change places, alone and in lists of steps.
-- In order: two steps; lists of steps; steps that do not touch the semaphore; two takings, which cannot. Assumes nothing.
use mathlib.Core.Path.{◌≡◌, refl, sym, ap, ◌∙◌}
use mathlib.Core.Logic.{◌≢◌, ◌⊎◌, inl, inr}
use mathlib.Core.Bool.{Bool}
use mathlib.Core.List.{List, [], ◌∷◌, ◌++◌}
use Prim.Native.Nat.{ℕ, zero, suc}
use native.Mathlib.Omega.{arith}
use lib.ListN.{drop}
use Rattle.verdict.specs.Verdict.{pick}
use Rattle.memory.specs.Memory.{splice}
use Rattle.protocol.specs.Registers.{read_acquired}
use Rattle.protocol.specs.State.{Core, State, Move, Sample, Task, mode}
use Rattle.protocol.specs.Step.{uncopied, turn, read_taken, step, run, Taking, taking_of, takings}
use Rattle.protocol.specs.Laws.{Laws, FreshStart, SemaphoreHeld}
use Rattle.protocol.specs.Variables.{In}
use Rattle.races.specs.Footprint.{Place, control, local, byte, semaphore, SameAt, DataFootprints, DataFootprintsRight, locals, inputs, unspent, taking_writes}
use Rattle.races.specs.Footprint.{sources, targets, release, footprint_in, footprint, Writes, Touches, SameRead, Independent, Alike, Swaps, none, swap, later, more}
use Rattle.protocol.proofs.Runs.{task, start, samples, variables}
use Rattle.protocol.proofs.View.{at, Moves, rests, waits, takes_read, reads_on, reads_last, runs, takes_write, writes_on, writes_last, view}
use Rattle.protocol.proofs.Bytes.{in-append, in_left}
use Rattle.protocol.proofs.Steps.{others-stay, lengths, held-step, held-fresh, held-run}
use Rattle.races.proofs.Places.{never, in?, by-local, same-state}
use Rattle.races.proofs.Footprint.{unwritten, stopped-places, same-places, same-written, same-taking}
use Rattle.races.proofs.RaceFree.{race-free-held}

-- ---- two steps

turned : {t : Task} {o : DataFootprints} {j k : ℕ} {s : State} → Independent t o j k s → Independent t o k j s
turned d = record { different = λ e. d.different (sym e); not-both = λ a b. d.not-both b a }

module _ (t : Task) (l : Laws t) (o : DataFootprints) (right : DataFootprintsRight t o) (s : State) (x : SemaphoreHeld s) where
  -- what one writes, the other does not touch
  apart : {j k : ℕ} → Independent t o j k s → (p : Place) → Writes t o j s p → Touches t o k s p → ⊥
  apart {j} {k} d p w h = let e = (race-free-held t o s x).no_race j k d.different p w h in d.not-both (inr (rw e at w)) (rw e at h)

  -- core k's step does not change what core j's reads
  still_read : {j k : ℕ} → Independent t o j k s → SameRead t o j s (step t k s)
  still_read {j} {k} d = record {
    size = sym (lengths t l k s).shared;
    data-size = sym ((lengths t l k s).memories j);
    read = λ p h. unwritten t o right k s p (λ w. apart (turned d) p w (inl h));
  }

  -- what core k's step does not write from s, it does not write after core j's step either
  then-kept : {j k : ℕ} → Independent t o j k s → (p : Place) → (Writes t o k s p → ⊥) → SameAt p (step t j s) (step t k (step t j s))
  then-kept {j} {k} d p n = unwritten t o right k (step t j s) p (λ w. n (rw (← same-places t o right k s (step t j s) (still_read (turned d))) at w))

  -- what core j's step writes stands there in the end, whichever comes first
  either_way : {j k : ℕ} → Independent t o j k s → (p : Place) → Writes t o j s p → SameAt p (step t k (step t j s)) (step t j (step t k s))
  either_way {j} {k} d p w = sym (then-kept d p (λ h. apart d p w (inr h))) ∙ same-written t o right j s (step t k s) (still_read d) p w

  commute : {j k : ℕ} → Independent t o j k s → step t k (step t j s) ≡ step t j (step t k s)
  commute {j} {k} d =
      same-state (step t k (step t j s)) (step t j (step t k s))
      ((lengths t l k (step t j s)).cores ∙ (lengths t l j s).cores ∙ sym ((lengths t l j (step t k s)).cores ∙ (lengths t l k s).cores))
      (λ i. (lengths t l k (step t j s)).memories i ∙ (lengths t l j s).memories i ∙ sym ((lengths t l j (step t k s)).memories i ∙ (lengths t l k s).memories i))
      ((lengths t l k (step t j s)).shared ∙ (lengths t l j s).shared ∙ sym ((lengths t l j (step t k s)).shared ∙ (lengths t l k s).shared))
      (λ p. go p (in? p (footprint t o j s).writes) (in? p (footprint t o k s).writes))
    where
      go : (p : Place) → Dec (Writes t o j s p) → Dec (Writes t o k s p) → SameAt p (step t k (step t j s)) (step t j (step t k s))
      go p (yes w) b = either_way d p w
      go p (no a) (yes w) = sym (either_way (turned d) p w)
      go p (no a) (no b) = sym (unwritten t o right j s p a ∙ then-kept d p b) ∙ unwritten t o right k s p b ∙ then-kept (turned d) p a

-- a taking touches the semaphore
taking-asks : (t : Task) (o : DataFootprints) (k : ℕ) (s s' : State) (ts : List Taking) → Moves t k s s' ts → (ts ≡ []) ⊎ Touches t o k s semaphore
unfolding footprint pick
taking-asks t o k s s' ts (rests z) = inl refl
taking-asks t o k s s' ts (waits i w b) = inl refl
taking-asks t o k s s' ts (takes_read r rs i f b e d) = inr (inl (rw (e, d) (inr (inl refl))))
taking-asks t o k s s' ts (reads_on m ms i e d) = inl refl
taking-asks t o k s s' ts (reads_last i e d) = inl refl
taking-asks t o k s s' ts (runs i e) = inl refl
taking-asks t o k s s' ts (takes_write i f b e) = inr (inl (rw e (inr (inl refl))))
taking-asks t o k s s' ts (writes_on m ms i e d) = inl refl
taking-asks t o k s s' ts (writes_last i e d) = inl refl

-- of two such steps at most one is a taking
one-takes : (t : Task) (o : DataFootprints) (j k : ℕ) (s : State) → Independent t o j k s → (ts : List Taking)
    → taking_of t j s ++ (taking_of t k s ++ ts) ≡ taking_of t k s ++ (taking_of t j s ++ ts)
one-takes t o j k s d ts = go (taking-asks t o j s _ _ (view t j s)) (taking-asks t o k s _ _ (view t k s))
  where
    go : (taking_of t j s ≡ []) ⊎ Touches t o j s semaphore → (taking_of t k s ≡ []) ⊎ Touches t o k s semaphore
        → taking_of t j s ++ (taking_of t k s ++ ts) ≡ taking_of t k s ++ (taking_of t j s ++ ts)
    go (inl e) y = rw e
    go (inr h) (inl e) = rw e
    go (inr h) (inr i) = absurd (d.not-both h i)

-- ---- lists of steps

module _ (t : Task) (l : Laws t) (o : DataFootprints) (right : DataFootprintsRight t o) where
  swap_alike : {j k : ℕ} (ks : List ℕ) (s : State) → SemaphoreHeld s → Independent t o j k s → Alike t (j ∷ k ∷ ks) (k ∷ j ∷ ks) s
  swap_alike {j} {k} ks s x d = record {
    end = ap (run t ks) (commute t l o right s x d);
    takings-same =
        rw (← same-taking t o right j s (step t k s) (still_read t l o right s x d), ← same-taking t o right k s (step t j s) (still_read t l o right s x (turned d)), commute t l o right s x d)
        (one-takes t o j k s d (takings t ks (step t j (step t k s))));
  }

  -- Lists of steps from such a state that differ by such changes of places end alike, with the same takings
  pub alike : {s : State} {js ks : List ℕ} → SemaphoreHeld s → Swaps t o s js ks → Alike t js ks s
  alike x none = record { end = refl; takings-same = refl }
  alike {s} x (swap {ks = ks} d) = swap_alike ks s x d
  alike {s} x (later {k = k} w) =
      let y = alike (held-step t l k s x) w in record { end = y.end; takings-same = ap (λ (ts : List Taking). taking_of t k s ++ ts) y.takings-same }
  alike x (more v w) = let y = alike x v in let z = alike x w in record { end = y.end ∙ z.end; takings-same = y.takings-same ∙ z.takings-same }

  -- After every list of steps from a fresh state: two steps of different cores that do not both touch the semaphore can change places
  pub steps-commute : (s : State) → FreshStart s → (is : List ℕ) (j k : ℕ) → Independent t o j k (run t is s) → Alike t (j ∷ k ∷ []) (k ∷ j ∷ []) (run t is s)
  steps-commute s f is j k d = swap_alike [] (run t is s) (held-run t l s f is) d

  -- Lists of steps from a fresh state that differ by such changes of places end alike, with the same takings
  pub swaps-alike : (s : State) → FreshStart s → (js ks : List ℕ) → Swaps t o s js ks → Alike t js ks s
  swaps-alike s f js ks w = alike (held-fresh s f) w

-- Changes of places can be taken back
pub swaps-back : {t : Task} {o : DataFootprints} {s : State} {js ks : List ℕ} → Swaps t o s js ks → Swaps t o s ks js
swaps-back none = none
swaps-back (swap d) = swap (turned d)
swaps-back (later w) = later (swaps-back w)
swaps-back (more v w) = more (swaps-back w) (swaps-back v)

-- data, or a byte that is copied, is not the semaphore
not-data : (k : ℕ) (is : List ℕ) → In semaphore (locals k is) → ⊥
not-data k is h = go (by-local (λ (p : Place). p ≢ semaphore) k is (λ i m e. never (cc)) semaphore h)
  where
    go : semaphore ≢ semaphore → ⊥
    go n = n refl

not-target : (place : ℕ → Place) → ((i : ℕ) → semaphore ≢ place i) → (ms : List Move) → In semaphore (targets place ms) → ⊥
not-target place n [] h = h
not-target place n (m ∷ ms) (inl e) = n m.target e
not-target place n (m ∷ ms) (inr h) = h

-- An instruction does not touch the semaphore
pub instruction-alone : (t : Task) (o : DataFootprints) (k : ℕ) (s : State) → mode (at s k) ≡ 2 → Touches t o k s semaphore → ⊥
unfolding footprint pick
instruction-alone t o k s e h = go (rw e at h)
  where
    go : In semaphore (control k ∷ locals k (o k (at s k)).reads) ⊎ In semaphore (control k ∷ locals k (o k (at s k)).writes) → ⊥
    go (inl (inl z)) = never (cc)
    go (inl (inr m)) = not-data k (o k (at s k)).reads m
    go (inr (inl z)) = never (cc)
    go (inr (inr m)) = not-data k (o k (at s k)).writes m

-- a step that touches the semaphore reads it, whosever turn it is
module _ (t : Task) (o : DataFootprints) (k : ℕ) (c : Core) (b b' : Bool) where
  released-read : (place from_place : ℕ → Place) → ((i : ℕ) → semaphore ≢ place i) → (ns ms : List Move) → In semaphore (control k ∷ release ns ++ targets place ms)
      → In semaphore (control k ∷ release ns ++ sources from_place ms)
  released-read place from_place n ns ms (inl z) = inl z
  released-read place from_place n ns ms (inr h) = go (in-append semaphore (release ns) (targets place ms) h)
    where
      go : In semaphore (release ns) ⊎ In semaphore (targets place ms) → In semaphore (control k ∷ release ns ++ sources from_place ms)
      go (inl r) = inr (in_left semaphore (release ns) (sources from_place ms) r)
      go (inr r) = absurd (not-target place n ms r)

  asks-in : (n : ℕ) → In semaphore (footprint_in n t o k c b).reads ⊎ In semaphore (footprint_in n t o k c b).writes → In semaphore (footprint_in n t o k c b').reads
  unfolding pick
  asks-in zero (inl h) = h
  asks-in zero (inr h) = go (drop c.registers.cycles (t.samples k)) h
    where
      go : (rs : List Sample) → In semaphore (unspent rs (taking_writes b k (inputs k rs))) → In semaphore (control k ∷ unspent rs (semaphore ∷ []))
      go [] h = absurd h
      go (r ∷ rs) h = inr (inl refl)
  asks-in (suc zero) (inl h) = h
  asks-in (suc zero) (inr h) = let ms = uncopied c (t.reads k) in released-read (local k) byte (λ i e. never (cc)) (drop 1 ms) ms h
  asks-in (suc (suc zero)) (inl h) = h
  asks-in (suc (suc zero)) (inr (inl z)) = inl z
  asks-in (suc (suc zero)) (inr (inr h)) = absurd (not-data k (o k c).writes h)
  asks-in (suc (suc (suc zero))) h = inr (inl refl)
  asks-in (suc (suc (suc (suc zero)))) (inl h) = h
  asks-in (suc (suc (suc (suc zero)))) (inr h) = let ms = uncopied c (t.writes k) in released-read byte (local k) (λ i e. never (cc)) (drop 1 ms) ms h
  asks-in (suc (suc (suc (suc (suc n))))) (inl h) = rw (stopped-places n t o k c b') (rw (stopped-places n t o k c b) at h)
  asks-in (suc (suc (suc (suc (suc n))))) (inr h) = absurd (rw (stopped-places n t o k c b) at h)

-- the step of another core leaves it so that a step does not touch the semaphore
still-alone : (t : Task) (o : DataFootprints) (j k : ℕ) (s : State) → k ≢ j → (Touches t o k s semaphore → ⊥) → Touches t o k (step t j s) semaphore → ⊥
unfolding footprint
still-alone t o j k s n u h = u (inl (asks-in t o k (at s k) (turn (step t j s).semaphore k) (turn s.semaphore k) (mode (at s k)) (rw (others-stay t j s k n) at h)))

-- A step that does not touch the semaphore can go before any steps of other cores
pub step-first : (t : Task) (o : DataFootprints) (s : State) (k : ℕ) (js ks : List ℕ) → ((j : ℕ) → In j js → j ≢ k) → (Touches t o k s semaphore → ⊥)
    → Swaps t o s (js ++ (k ∷ ks)) (k ∷ (js ++ ks))
step-first t o s k [] ks n u = none
step-first t o s k (j ∷ js) ks n u =
    more
    (later (step-first t o (step t j s) k js ks (λ i h. n i (inr h)) (still-alone t o j k s (λ e. n j (inl refl) (sym e)) u)))
    (swap record { different = n j (inl refl); not-both = λ a b. u b })

-- the first steps of both cores of a small task set, in two orders: who steps first holds the semaphore
first_holds : ((run task (0 ∷ 1 ∷ []) start).semaphore.holder ≡ 1) × ((run task (1 ∷ 0 ∷ []) start).semaphore.holder ≡ 2)
unfolding step task start samples variables pick splice read_taken read_acquired
first_holds = (refl, refl)

-- Two takings cannot change places: who steps first holds the semaphore
pub takings-stay : Alike task (0 ∷ 1 ∷ []) (1 ∷ 0 ∷ []) start → ⊥
takings-stay a = let e = ap (λ (s : State). s.semaphore.holder) a.end in let z : ◌≡◌ {A = ℕ} 1 2 = rw (first_holds.0, first_holds.1) at e in omega arith
