-- What a finished reading brought from one core is what that core published last before the reading took the semaphore.
-- In order: what is published; a step keeps it; from the taking to the release; lists of steps. Assumes nothing.
use mathlib.Core.Path.{◌≡◌, refl, sym, ap, ◌∙◌, subst}
use mathlib.Core.Logic.{◌≢◌, ◌⊎◌, inl, inr}
use mathlib.Core.List.{List, [], ◌∷◌}
use mathlib.Core.Option.{Option, none, some}
use Prim.Native.Nat.{ℕ, zero, suc, ◌<◌}
use native.Mathlib.Decide.{ℕ_discrete}
use native.Mathlib.Omega.{arith}
use borrow.Author.Tests.{ne_eqb}
use lib.Dec.{eqb}
use lib.ListN.{length, get_or, drop}
use lib.Seq.{get_or-set_other}
use Rattle.verdict.specs.Verdict.{pick}
use Rattle.memory.proofs.Laws.{length-splice}
use Rattle.protocol.specs.Registers.{read_acquired, byte_copied, read_released, write_acquired, write_released}
use Rattle.protocol.specs.State.{Core, Plant, Semaphore, State, Move, Sample, Task, absent, core, mode}
use Rattle.protocol.specs.Step.{acquired_by, released, copy, uncopied, read_taken, read_next, read_done, write_taken, write_next, write_done, step, run, Taking, reading, writing, taking_of}
use Rattle.protocol.specs.Whole.{whole_read, whole_one, whole}
use Rattle.protocol.specs.Variables.{In}
use Rattle.protocol.specs.History.{published, latest, Stays, Finished, brought}
use Rattle.protocol.specs.Laws.{Laws, FreshStart, SemaphoreHeld}
use Rattle.protocol.proofs.View.{after, at, read_byte, write_byte, Moves, rests, waits, takes_read, reads_on, reads_last, runs, takes_write, writes_on, writes_last, there, view}
use Rattle.protocol.proofs.Copy.{copy-on, copy-last, copy-length, copy-other, copy-get, Sound}
use Rattle.protocol.proofs.Steps.{each, only, nobody, lengths-run, held-step, held-fresh}
use Rattle.protocol.proofs.Whole.{Sim, free-shared, whole-write, sim-step, sim-fresh}

-- ---- what each core published last, where a writing in progress counts

-- the byte that a writer's move m published: from its data, or the start value
abbrev pub byte_of : Option (List ℕ) → List ℕ → Move → ℕ
byte_of none start m = get_or start m.target 0
byte_of (some d) start m = get_or d m.source 0

-- a writing in progress counts as done
abbrev current : Core → Option (List ℕ) → Option (List ℕ)
current c a = pick (eqb (mode c) 4) (some c.memory) a

current-same : (c : Core) (a : Option (List ℕ)) → current c (published c c a) ≡ current c a
unfolding pick
current-same c a = go (ℕ_discrete (mode c) 4)
  where
    go : Dec (mode c ≡ 4) → current c (published c c a) ≡ current c a
    go (yes e) = rw e
    go (no n) = rw (ne_eqb (mode c) 4 n)

-- each core's latest publication
abbrev Publications : Type 0
Publications = ℕ → Option (List ℕ)

-- the same after a step from s to s'
abbrev onward : State → State → Publications → Publications
onward s s' a j = published (at s j) (at s' j) (a j)

-- shared memory sh holds core j's bytes, if it is c and had published a before
abbrev Holds : Task → State → List ℕ → ℕ → Core → Option (List ℕ) → Type 0
Holds t s₀ sh j c a = (m : Move) → In m (t.writes j) → get_or sh m.target 0 ≡ byte_of (current c a) s₀.plant.shared m

-- the whole-exchange machine's shared memory holds what each core published last
record Kept (t : Task) (s₀ s : State) (w : Plant) (a : Publications) : Type 0 where
  bytes : (j : ℕ) → Holds t s₀ w.shared j (at s j) (a j)
  size : length w.shared ≡ length s₀.plant.shared

-- ---- a step keeps it

module _ (t : Task) (k : ℕ) (s₀ s : State) (w : Plant) (a : Publications) (kept : Kept t s₀ s w a) where
  -- the whole-exchange machine's shared memory stays as it is
  keep : (c : Core) (sh : List ℕ) (h : Semaphore) (v : Plant) → k < length s.plant.cores
      → v.shared ≡ w.shared
      → current c (published (at s k) c (a k)) ≡ current (at s k) (a k)
      → Kept t s₀ (after s k c sh h) v (onward s (after s k c sh h) a)
  keep c sh h v i e one = record {
    bytes = each (λ j x. Holds t s₀ v.shared j x (published (at s j) x (a j))) s.plant.cores k c i
        (λ m n. rw (e, one) (kept.bytes k m n))
        (λ j d m n. rw (e, current-same (at s j) (a j)) (kept.bytes j m n));
    size = rw e kept.size;
  }

  whole-read : (m : ℕ) (rs : List Sample) (c : Core) → (whole_read m rs t k c w).shared ≡ w.shared
  whole-read zero [] c = refl
  whole-read zero (r ∷ rs) c = refl
  whole-read (suc m) rs c = refl

  -- a writing brings its core's bytes, and no other core's
  kept-takes_write : Sound t s₀ → Sim t s w → k < length s.plant.cores → mode (at s k) ≡ 3
      → (let s' = after s k (write_taken (at s k)) s.plant.shared (acquired_by k s.semaphore) in Kept t s₀ s' (whole_one t (writing k) w) (onward s s' a))
  unfolding write_taken write_acquired pick
  kept-takes_write ok sim i e =
      let sh : List ℕ = copy (t.writes k) (at s k).memory w.shared in
      rw (whole-write t k s w sim e) record {
        bytes = each (λ j x. Holds t s₀ sh j x (published (at s j) x (a j))) s.plant.cores k (write_taken (at s k)) i
            (λ m n. copy-get (t.writes k) (at s k).memory w.shared m (ok.writes_apart k) n (rw kept.size (ok.writes-fit k m n)))
            (λ j d m n.
            copy-other (t.writes k) (at s k).memory w.shared m.target (λ b o. ok.one_writer k j (λ f. d (sym f)) b m o n)
            ∙ rw (current-same (at s j) (a j)) (kept.bytes j m n));
        size = copy-length (t.writes k) (at s k).memory w.shared ∙ kept.size;
      }

  kept_step : Laws t → Sound t s₀ → Sim t s w → (s' : State) (ts : List Taking) → Moves t k s s' ts → Kept t s₀ s' (whole t ts w) (onward s s' a)
  unfolding whole_one read_taken read_acquired read_next byte_copied read_done read_released write_next write_done write_released pick
  kept_step l ok sim s' ts (rests z) = record { bytes = λ j m n. rw (current-same (at s j) (a j)) (kept.bytes j m n); size = kept.size }
  kept_step l ok sim s' ts (waits i wt b) = record { bytes = λ j m n. rw (current-same (at s j) (a j)) (kept.bytes j m n); size = kept.size }
  kept_step l ok sim s' ts (takes_read r rs i f b e d) =
      keep (read_taken r (at s k)) s.plant.shared (acquired_by k s.semaphore) (whole_one t (reading k) w) i
      (whole-read (mode (core w k)) (drop (core w k).registers.cycles (t.samples k)) (core w k)) (rw e)
  kept_step l ok sim s' ts (reads_on m ms i e d) = keep (read_next (read_byte t k s) (at s k)) s.plant.shared s.semaphore w i refl (rw e)
  kept_step l ok sim s' ts (reads_last i e d) = keep (read_done (read_byte t k s) (at s k)) s.plant.shared (released s.semaphore) w i refl (rw e)
  kept_step l ok sim s' ts (runs i e) =
      let c : Core = t.instruction k (at s k) in
      keep c s.plant.shared s.semaphore w i refl (rw (e, ne_eqb (mode c) 4 (l.no_write k (at s k) e)))
  kept_step l ok sim s' ts (takes_write i f b e) = kept-takes_write ok sim i e
  kept_step l ok sim s' ts (writes_on m ms i e d) = keep (write_next (at s k)) (write_byte t k s) s.semaphore w i refl (rw e)
  kept_step l ok sim s' ts (writes_last i e d) = keep (write_done (at s k)) (write_byte t k s) (released s.semaphore) w i refl (rw e)

-- ---- from the taking to the release

-- what core r's data will be when the reading in progress is finished
abbrev coming : Task → ℕ → State → List ℕ
coming t r s = copy (uncopied (at s r) (t.reads r)) s.plant.shared (at s r).memory

-- a step of the reading core leaves it alone, or brings it about
abbrev Onward : Task → ℕ → State → State → Type 0
Onward t r s s' = ((mode (at s' r) ≡ 1) × (coming t r s' ≡ coming t r s)) ⊎ ((mode (at s' r) ≡ 2) × ((at s' r).memory ≡ coming t r s))

-- the step from s to s' took the semaphore for core r, whose data are then d
record Took (t : Task) (r : ℕ) (s s' : State) : Type 0 where
  d : List ℕ
  free : s.semaphore.holder ≡ 0
  size : length d ≡ length (at s r).memory
  comes : coming t r s' ≡ copy (t.reads r) s.plant.shared d

module _ (t : Task) (r : ℕ) (s : State) where
  coming-other : SemaphoreHeld s → (k : ℕ) → r ≢ k → mode (at s r) ≡ 1 → (s' : State) (ts : List Taking) → Moves t k s s' ts → coming t r s' ≡ coming t r s
  coming-other h k n e s' ts (rests z) = refl
  coming-other h k n e s' ts (waits i wt b) = refl
  coming-other h k n e s' ts (takes_read x rs i f b g d) = rw (get_or-set_other s.plant.cores k r (read_taken x (at s k)) absent n)
  coming-other h k n e s' ts (reads_on m ms i g d) = rw (get_or-set_other s.plant.cores k r (read_next (read_byte t k s) (at s k)) absent n)
  coming-other h k n e s' ts (reads_last i g d) = rw (get_or-set_other s.plant.cores k r (read_done (read_byte t k s) (at s k)) absent n)
  coming-other h k n e s' ts (runs i g) = rw (get_or-set_other s.plant.cores k r (t.instruction k (at s k)) absent n)
  coming-other h k n e s' ts (takes_write i f b g) = rw (get_or-set_other s.plant.cores k r (write_taken (at s k)) absent n)
  coming-other h k n e s' ts (writes_on m ms i g d) = absurd (only s h k (inr g) r n (inl e))
  coming-other h k n e s' ts (writes_last i g d) = absurd (only s h k (inr g) r n (inl e))

  coming-own : mode (at s r) ≡ 1 → (s' : State) (ts : List Taking) → Moves t r s s' ts → Onward t r s s'
  unfolding read_next byte_copied read_done read_released
  coming-own e s' ts (rests z) = inl (e, refl)
  coming-own e s' ts (waits i wt b) = inl (e, refl)
  coming-own e s' ts (takes_read x rs i f b g d) = absurd (omega arith)
  coming-own e s' ts (reads_on m ms i g d) =
      inl (rw (there s r (read_next (read_byte t r s) (at s r)) i) (e, sym (copy-on (at s r).registers.exchange (t.reads r) s.plant.shared (at s r).memory)))
  coming-own e s' ts (reads_last i g d) =
      inr (rw (there s r (read_done (read_byte t r s) (at s r)) i) (refl, sym (copy-last (uncopied (at s r) (t.reads r)) s.plant.shared (at s r).memory d)))
  coming-own e s' ts (runs i g) = absurd (omega arith)
  coming-own e s' ts (takes_write i f b g) = absurd (omega arith)
  coming-own e s' ts (writes_on m ms i g d) = absurd (omega arith)
  coming-own e s' ts (writes_last i g d) = absurd (omega arith)

  coming-taken : mode (at s r) ≡ 0 → (s' : State) (ts : List Taking) → Moves t r s s' ts → mode (at s' r) ≡ 1 → Took t r s s'
  unfolding read_taken read_acquired
  coming-taken e s' ts (rests z) f = absurd (omega arith)
  coming-taken e s' ts (waits i wt b) f = absurd (omega arith)
  coming-taken e s' ts (takes_read x rs i z b g q) f = record {
    d = (read_taken x (at s r)).memory;
    free = z;
    size = length-splice (at s r).memory 0 x.input;
    comes = rw (there s r (read_taken x (at s r)) i);
  }
  coming-taken e s' ts (reads_on m ms i g q) f = absurd (omega arith)
  coming-taken e s' ts (reads_last i g q) f = absurd (omega arith)
  coming-taken e s' ts (runs i g) f = absurd (omega arith)
  coming-taken e s' ts (takes_write i z b g) f = absurd (omega arith)
  coming-taken e s' ts (writes_on m ms i g q) f = absurd (omega arith)
  coming-taken e s' ts (writes_last i g q) f = absurd (omega arith)

  -- one step within a reading
  during-step : SemaphoreHeld s → (k : ℕ) → mode (at s r) ≡ 1 → mode (at (step t k s) r) ≡ 1 → coming t r (step t k s) ≡ coming t r s
  during-step h k e = go (ℕ_discrete r k)
    where
      own : Onward t r s (step t r s) → mode (at (step t r s) r) ≡ 1 → coming t r (step t r s) ≡ coming t r s
      own (inl x) f = x.1
      own (inr x) f = absurd (omega arith)

      go : Dec (r ≡ k) → mode (at (step t k s) r) ≡ 1 → coming t r (step t k s) ≡ coming t r s
      go (yes x) =
          subst (λ (k : ℕ). mode (at (step t k s) r) ≡ 1 → coming t r (step t k s) ≡ coming t r s) x (own (coming-own e (step t r s) (taking_of t r s) (view t r s)))
      go (no n) = λ f. coming-other h k n e (step t k s) (taking_of t k s) (view t k s)

  -- its last step
  at-release : mode (at s r) ≡ 1 → mode (at (step t r s) r) ≡ 2 → (at (step t r s) r).memory ≡ coming t r s
  at-release e f = go (coming-own e (step t r s) (taking_of t r s) (view t r s))
    where
      go : Onward t r s (step t r s) → (at (step t r s) r).memory ≡ coming t r s
      go (inl x) = absurd (omega arith)
      go (inr x) = x.1

-- ---- lists of steps

pub stays-first : (t : Task) (r : ℕ) (ks : List ℕ) (s : State) → Stays t r ks s → mode (at s r) ≡ 1
stays-first t r [] s x = x
stays-first t r (k ∷ ks) s x = x.0

stays-last : (t : Task) (r : ℕ) (ks : List ℕ) (s : State) → Stays t r ks s → mode (at (run t ks s) r) ≡ 1
stays-last t r [] s x = x
stays-last t r (k ∷ ks) s x = stays-last t r ks (step t k s) x.1

module _ (t : Task) (l : Laws t) where
  throughout : (r : ℕ) (ks : List ℕ) (s : State) → SemaphoreHeld s → Stays t r ks s → coming t r (run t ks s) ≡ coming t r s
  throughout r [] s h y = refl
  throughout r (k ∷ ks) s h y =
      throughout r ks (step t k s) (held-step t l k s h) y.1 ∙ during-step t r s h k y.0 (stays-first t r ks (step t k s) y.1)

-- what holds of a state at which a list of steps has arrived
record Reached (t : Task) (s₀ s : State) (a : Publications) : Type 0 where
  plant : Plant
  sim : Sim t s plant
  semaphore : SemaphoreHeld s
  kept : Kept t s₀ s plant a

module _ (t : Task) (l : Laws t) (s₀ : State) (ok : Sound t s₀) where
  reach : (ks : List ℕ) (s : State) (a : Publications) → Reached t s₀ s a → Reached t s₀ (run t ks s) (λ j. latest t j (a j) ks s)
  reach [] s a x = x
  reach (k ∷ ks) s a x = reach ks (step t k s) (onward s (step t k s) a) record {
    plant = whole t (taking_of t k s) x.plant;
    sim = sim-step t l k s x.plant x.sim x.semaphore;
    semaphore = held-step t l k s x.semaphore;
    kept = kept_step t k s₀ s x.plant a x.kept l ok x.sim (step t k s) (taking_of t k s) (view t k s);
  }

  reach-fresh : FreshStart s₀ → Reached t s₀ s₀ (λ j. none)
  unfolding pick
  reach-fresh f = record { plant = s₀.plant; sim = sim-fresh t s₀ f; semaphore = held-fresh s₀ f; kept = record { bytes = λ j. go j (f.between j); size = refl } }
    where
      go : (j : ℕ) → (mode (at s₀ j) ≡ 0) ⊎ (mode (at s₀ j) ≡ 5) → Holds t s₀ s₀.plant.shared j (at s₀ j) none
      go j (inl e) m n = rw e
      go j (inr e) m n = rw e

  -- A byte that a finished reading brought from core w is the one that w published last before the reading took the semaphore
  pub as-published : FreshStart s₀ → (ks : List ℕ) (r : ℕ) (x : Finished t s₀ ks r) (w : ℕ) (a b : Move) → In a (t.reads r) → In b (t.writes w) → a.source ≡ b.target
      → get_or (brought x) a.target 0 ≡ byte_of (latest t w none x.before s₀) s₀.plant.shared b
  unfolding pick
  as-published f ks r x w a b ia ib e =
      let s₁ : State = run t x.before s₀ in
      let s₂ : State = step t r s₁ in
      let here : Reached t s₀ s₁ (λ j. latest t j none x.before s₀) = reach x.before s₀ (λ j. none) (reach-fresh f) in
      let took : Took t r s₁ s₂ = coming-taken t r s₁ x.was-idle s₂ (taking_of t r s₁) (view t r s₁) (stays-first t r x.during s₂ x.stays) in
      let sh : here.plant.shared ≡ s₁.plant.shared = free-shared t r s₁ here.plant here.sim took.free in
      let got : brought x ≡ copy (t.reads r) s₁.plant.shared took.d
      = at-release t r (run t x.during s₂) (stays-last t r x.during s₂ x.stays) x.done
      ∙ throughout t l r x.during s₂ (held-step t l r s₁ here.semaphore) x.stays
      ∙ took.comes in
      let calm : mode (at s₁ w) ≢ 4 = λ g. nobody s₁ here.semaphore took.free w (inr g) in
      ap (λ (d : List ℕ). get_or d a.target 0) got
      ∙ copy-get (t.reads r) s₁.plant.shared took.d a (ok.reads-apart r) ia (rw (took.size, (lengths-run t l x.before s₀).memories r) (ok.reads_fit r a ia))
      ∙ ap (λ (i : ℕ). get_or s₁.plant.shared i 0) e
      ∙ ap (λ (d : List ℕ). get_or d b.target 0) (sym sh)
      ∙ here.kept.bytes w b ib
      ∙ rw (ne_eqb (mode (at s₁ w)) 4 calm)
