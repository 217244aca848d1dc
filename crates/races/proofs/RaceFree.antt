-- The second claim of specs/Footprint: cores do not race. A place of a step is of its own core, or the semaphore, or a shared byte while the core holds
-- the semaphore; so two cores meet at the semaphore alone. Not here: that footprints are right (`Footprint`). Assumes nothing.
use mathlib.Core.Path.{◌≡◌, refl, sym, subst}
use mathlib.Core.Logic.{◌≢◌, inl, inr}
use mathlib.Core.Bool.{Bool, true, false}
use mathlib.Core.List.{List, [], ◌∷◌, ◌++◌}
use Prim.Native.Nat.{ℕ, zero, suc}
use lib.ListN.{length, drop}
use Rattle.verdict.specs.Verdict.{pick}
use Rattle.protocol.specs.State.{Core, State, Move, Sample, Task, mode}
use Rattle.protocol.specs.Step.{uncopied, turn, run}
use Rattle.protocol.specs.Laws.{Laws, FreshStart, Holding, SemaphoreHeld}
use Rattle.protocol.specs.Variables.{In}
use Rattle.races.specs.Footprint.{Place, control, local, byte, semaphore, stretch, DataFootprints, locals, inputs, unspent, taking_writes}
use Rattle.races.specs.Footprint.{sources, targets, release, footprint_in, footprint, Touches, RaceFree}
use Rattle.protocol.proofs.View.{at}
use Rattle.protocol.proofs.Steps.{only, held-run}
use Rattle.races.proofs.Places.{never, by-local}
use Rattle.races.proofs.Footprint.{stopped-places}

-- a place of core k's step: its registers, a byte of its data, the semaphore, or in an exchange a shared byte
data Kind (k : ℕ) (c : Core) (p : Place) : Type 0 where
  its-control : p ≡ control k → Kind k c p
  its-data : (i : ℕ) → p ≡ local k i → Kind k c p
  asked : p ≡ semaphore → Kind k c p
  copied : (i : ℕ) → p ≡ byte i → Holding c → Kind k c p

record Kinds (k : ℕ) (c : Core) (ps : List Place) : Type 0 where
  each : (p : Place) → In p ps → Kind k c p

module _ (t : Task) (o : DataFootprints) (k : ℕ) (c : Core) where
  none_at_all : Kinds k c []
  none_at_all = record { each = λ p h. absurd h }

  -- one place more
  with-one : (q : Place) {ps : List Place} → Kind k c q → Kinds k c ps → Kinds k c (q ∷ ps)
  with-one q {ps} x z = record { each = go }
    where
      go : (p : Place) → In p (q ∷ ps) → Kind k c p
      go p (inl e) = subst (Kind k c) (sym e) x
      go p (inr h) = z.each p h

  with-control : {ps : List Place} → Kinds k c ps → Kinds k c (control k ∷ ps)
  with-control z = with-one (control k) (its-control refl) z

  with-semaphore : {ps : List Place} → Kinds k c ps → Kinds k c (semaphore ∷ ps)
  with-semaphore z = with-one semaphore (asked refl) z

  with-release : (ms : List Move) (ps : List Place) → Kinds k c ps → Kinds k c (release ms ++ ps)
  with-release [] ps z = with-semaphore z
  with-release (m ∷ ms) ps z = z

  kinds-locals : (is : List ℕ) → Kinds k c (locals k is)
  kinds-locals is = record { each = by-local (Kind k c) k is (λ i m. its-data i refl) }

  -- the byte that is copied, of data or of shared memory
  kinds-sources : (place : ℕ → Place) (ms : List Move) → ((i : ℕ) → Kind k c (place i)) → Kinds k c (sources place ms)
  kinds-sources place [] y = none_at_all
  kinds-sources place (m ∷ ms) y = with-one (place m.source) (y m.source) none_at_all

  kinds-targets : (place : ℕ → Place) (ms : List Move) → ((i : ℕ) → Kind k c (place i)) → Kinds k c (targets place ms)
  kinds-targets place [] y = none_at_all
  kinds-targets place (m ∷ ms) y = with-one (place m.target) (y m.target) none_at_all

  kinds-unspent : (rs : List Sample) (ps : List Place) → Kinds k c ps → Kinds k c (unspent rs ps)
  kinds-unspent [] ps z = none_at_all
  kinds-unspent (r ∷ rs) ps z = z

  kinds-turn : (b : Bool) (ps : List Place) → Kinds k c ps → Kinds k c (taking_writes b k ps)
  kinds-turn true ps z = with-control (with-semaphore z)
  kinds-turn false ps z = with-semaphore none_at_all

  kinds-inputs : (rs : List Sample) → Kinds k c (inputs k rs)
  kinds-inputs [] = none_at_all
  kinds-inputs (r ∷ rs) = kinds-locals (stretch 0 (length r.input))

  reads-kinds : (n : ℕ) (b : Bool) → mode c ≡ n → Kinds k c (footprint_in n t o k c b).reads
  unfolding pick
  reads-kinds zero b e = with-control (kinds-unspent (drop c.registers.cycles (t.samples k)) (semaphore ∷ []) (with-semaphore none_at_all))
  reads-kinds (suc zero) b e =
      let ms = uncopied c (t.reads k) in with-control (with-release (drop 1 ms) (sources byte ms) (kinds-sources byte ms (λ i. copied i refl (inl e))))
  reads-kinds (suc (suc zero)) b e = with-control (kinds-locals (o k c).reads)
  reads-kinds (suc (suc (suc zero))) b e = with-control (with-semaphore none_at_all)
  reads-kinds (suc (suc (suc (suc zero)))) b e =
      let ms = uncopied c (t.writes k) in with-control (with-release (drop 1 ms) (sources (local k) ms) (kinds-sources (local k) ms (λ i. its-data i refl)))
  reads-kinds (suc (suc (suc (suc (suc n))))) b e = rw (stopped-places n t o k c b) (with-control none_at_all)

  writes-kinds : (n : ℕ) (b : Bool) → mode c ≡ n → Kinds k c (footprint_in n t o k c b).writes
  unfolding pick
  writes-kinds zero b e =
      let rs = drop c.registers.cycles (t.samples k) in kinds-unspent rs (taking_writes b k (inputs k rs)) (kinds-turn b (inputs k rs) (kinds-inputs rs))
  writes-kinds (suc zero) b e =
      let ms = uncopied c (t.reads k) in with-control (with-release (drop 1 ms) (targets (local k) ms) (kinds-targets (local k) ms (λ i. its-data i refl)))
  writes-kinds (suc (suc zero)) b e = with-control (kinds-locals (o k c).writes)
  writes-kinds (suc (suc (suc zero))) b e = kinds-turn b [] none_at_all
  writes-kinds (suc (suc (suc (suc zero)))) b e =
      let ms = uncopied c (t.writes k) in with-control (with-release (drop 1 ms) (targets byte ms) (kinds-targets byte ms (λ i. copied i refl (inr e))))
  writes-kinds (suc (suc (suc (suc (suc n))))) b e = rw (stopped-places n t o k c b) none_at_all

kind : (t : Task) (o : DataFootprints) (k : ℕ) (s : State) (p : Place) → Touches t o k s p → Kind k (at s k) p
unfolding footprint
kind t o k s p (inl h) = (reads-kinds t o k (at s k) (mode (at s k)) (turn s.semaphore k) refl).each p h
kind t o k s p (inr h) = (writes-kinds t o k (at s k) (mode (at s k)) (turn s.semaphore k) refl).each p h

module _ (t : Task) (o : DataFootprints) (s : State) (x : SemaphoreHeld s) where
  kinds-meet : (j k : ℕ) → j ≢ k → (p : Place) → Kind j (at s j) p → Kind k (at s k) p → p ≡ semaphore
  kinds-meet j k n p (asked e) b = e
  kinds-meet j k n p (its-control e) (asked f) = f
  kinds-meet j k n p (its-data i e) (asked f) = f
  kinds-meet j k n p (copied i e y) (asked f) = f
  kinds-meet j k n p (its-control e) (its-control f) = absurd (n (cc))
  kinds-meet j k n p (its-data i e) (its-data i' f) = absurd (n (cc))
  kinds-meet j k n p (its-control e) (its-data i f) = absurd (never (cc))
  kinds-meet j k n p (its-data i e) (its-control f) = absurd (never (cc))
  kinds-meet j k n p (its-control e) (copied i f y) = absurd (never (cc))
  kinds-meet j k n p (its-data i e) (copied i' f y) = absurd (never (cc))
  kinds-meet j k n p (copied i e y) (its-control f) = absurd (never (cc))
  kinds-meet j k n p (copied i e y) (its-data i' f) = absurd (never (cc))
  kinds-meet j k n p (copied i e y) (copied i' f y') = absurd (only s x k y' j n y)

  kind-byte : (k i : ℕ) → Kind k (at s k) (byte i) → s.semaphore.holder ≡ suc k
  kind-byte k i (its-control e) = absurd (never (cc))
  kind-byte k i (its-data i' e) = absurd (never (cc))
  kind-byte k i (asked e) = absurd (never (cc))
  kind-byte k i (copied i' e y) = x.held k y

  kind-control : (j k : ℕ) → Kind k (at s k) (control j) → j ≡ k
  kind-control j k (its-control e) = cc
  kind-control j k (its-data i e) = absurd (never (cc))
  kind-control j k (asked e) = absurd (never (cc))
  kind-control j k (copied i e y) = absurd (never (cc))

  kind-local : (j i k : ℕ) → Kind k (at s k) (local j i) → j ≡ k
  kind-local j i k (its-data i' e) = cc
  kind-local j i k (its-control e) = absurd (never (cc))
  kind-local j i k (asked e) = absurd (never (cc))
  kind-local j i k (copied i' e y) = absurd (never (cc))

  -- In every state whose holder is the core in an exchange, cores do not race
  pub race-free-held : RaceFree t o s
  race-free-held = record {
    no_race = λ j k n p w h. kinds-meet j k n p (kind t o j s p (inr w)) (kind t o k s p h);
    by-holder = λ k i h. kind-byte k i (kind t o k s (byte i) h);
    control-alone = λ j k h. kind-control j k (kind t o k s (control j) h);
    local-alone = λ j i k h. kind-local j i k (kind t o k s (local j i) h);
  }

-- After every list of steps from a fresh state, cores do not race
pub race-free : (t : Task) → Laws t → (o : DataFootprints) (s : State) → FreshStart s → (ks : List ℕ) → RaceFree t o (run t ks s)
race-free t l o s f ks = race-free-held t o (run t ks s) (held-run t l s f ks)
