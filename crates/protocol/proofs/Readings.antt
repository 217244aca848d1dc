-- `Finished` leaves no reading out: every step from mode 1 to 2, anywhere in a list of steps, ends one. Assumes nothing.
use mathlib.Core.Path.{◌≡◌, refl, sym, ap, ◌∙◌, subst}
use mathlib.Core.Logic.{◌≢◌, ◌⊎◌, inl, inr}
use mathlib.Core.List.{List, [], ◌∷◌, ◌++◌, append_assoc}
use Prim.Native.Nat.{ℕ}
use native.Mathlib.Decide.{ℕ_discrete}
use native.Mathlib.Omega.{arith}
use Rattle.protocol.specs.Registers.{byte_copied, write_acquired, write_released}
use Rattle.protocol.specs.State.{State, Task, mode}
use Rattle.protocol.specs.Step.{write_taken, write_next, write_done, step, run, Taking, taking_of}
use Rattle.protocol.specs.History.{Stays, Finished}
use Rattle.protocol.specs.Laws.{Laws}
use Rattle.protocol.proofs.View.{at, Moves, rests, waits, takes_read, reads_on, reads_last, runs, takes_write, writes_on, writes_last, there, view}
use Rattle.protocol.proofs.Steps.{others-stay, run-append}
use Rattle.protocol.proofs.Pairing.{stays-first}

-- the list js from s ends within a reading of core r, which began after `before`
record Began (t : Task) (r : ℕ) (s : State) (js : List ℕ) : Type 0 where
  before : List ℕ
  during : List ℕ
  split : js ≡ before ++ (r ∷ during)
  was-idle : mode (at (run t before s) r) ≡ 0
  stays : Stays t r during (step t r (run t before s))

module _ (t : Task) (l : Laws t) (r : ℕ) where
  -- mode 1 is entered from mode 0 alone, and by the core's own step
  enters-own : (s s' : State) (ts : List Taking) → Moves t r s s' ts → mode (at s r) ≢ 1 → mode (at s' r) ≡ 1 → mode (at s r) ≡ 0
  unfolding write_taken write_acquired write_next byte_copied write_done write_released
  enters-own s s' ts (rests z) n f = absurd (n f)
  enters-own s s' ts (waits i wt b) n f = absurd (n f)
  enters-own s s' ts (takes_read x rs i z b e d) n f = e
  enters-own s s' ts (reads_on m ms i e d) n f = absurd (n e)
  enters-own s s' ts (reads_last i e d) n f = absurd (n e)
  enters-own s s' ts (runs i e) n f = absurd (l.no_read r (at s r) e (rw (there s r (t.instruction r (at s r)) i) at f))
  enters-own s s' ts (takes_write i z b e) n f = absurd (omega (arith, f, ap mode (there s r (write_taken (at s r)) i)))
  enters-own s s' ts (writes_on m ms i e d) n f = absurd (omega (arith, f, ap mode (there s r (write_next (at s r)) i)))
  enters-own s s' ts (writes_last i e d) n f = absurd (omega (arith, f, ap mode (there s r (write_done (at s r)) i)))

  enters : (k : ℕ) (s : State) → mode (at s r) ≢ 1 → mode (at (step t k s) r) ≡ 1 → (k ≡ r) × (mode (at s r) ≡ 0)
  enters k s n f = go (ℕ_discrete k r)
    where
      go : Dec (k ≡ r) → (k ≡ r) × (mode (at s r) ≡ 0)
      go (yes e) = (e, enters-own s (step t r s) (taking_of t r s) (view t r s) n (subst (λ (j : ℕ). mode (at (step t j s) r) ≡ 1) e f))
      go (no d) = absurd (n (sym (ap mode (others-stay t k s r (λ e. d (sym e)))) ∙ f))

  -- a list that ends in mode 1 was in it throughout, or began a reading
  began : (js : List ℕ) (s : State) → mode (at (run t js s) r) ≡ 1 → Stays t r js s ⊎ Began t r s js
  began [] s e = inl e
  began (k ∷ ks) s e = go (began ks (step t k s) e) (ℕ_discrete (mode (at s r)) 1)
    where
      opened : (k : ℕ) → k ≡ r → mode (at s r) ≡ 0 → Stays t r ks (step t k s) → Began t r s (k ∷ ks)
      opened k q z y = record { before = []; during = ks; split = rw q; was-idle = z; stays = subst (λ (j : ℕ). Stays t r ks (step t j s)) q y }

      go : Stays t r ks (step t k s) ⊎ Began t r (step t k s) ks → Dec (mode (at s r) ≡ 1) → Stays t r (k ∷ ks) s ⊎ Began t r s (k ∷ ks)
      go (inl y) (yes f) = inl (f, y)
      go (inl y) (no n) = let q = enters k s n (stays-first t r ks (step t k s) y) in inr (opened k q.0 q.1 y)
      go (inr b) d = inr record { before = k ∷ b.before; during = b.during; split = ap (λ (xs : List ℕ). k ∷ xs) b.split; was-idle = b.was-idle; stays = b.stays }

-- A step of core r from mode 1 to 2 after the steps js, from a state in which it was not reading, is the release of a finished reading
pub record Released (t : Task) (s : State) (js : List ℕ) (r : ℕ) (rest : List ℕ) : Type 0 where
  pub finished : Finished t s (js ++ (r ∷ rest)) r
  pub steps : finished.before ++ (r ∷ finished.during) ≡ js
  pub then : finished.rest ≡ rest

pub every-release : (t : Task) → Laws t → (s : State) (js : List ℕ) (r : ℕ) (rest : List ℕ) → mode (at s r) ≢ 1 → mode (at (run t js s) r) ≡ 1
    → mode (at (step t r (run t js s)) r) ≡ 2 → Released t s js r rest
every-release t l s js r rest n e f = go (began t l r js s e)
  where
    go : Stays t r js s ⊎ Began t r s js → Released t s js r rest
    go (inl y) = absurd (n (stays-first t r js s y))
    go (inr b) = record {
      finished = record {
        before = b.before;
        during = b.during;
        rest = rest;
        split = ap (λ (xs : List ℕ). xs ++ (r ∷ rest)) b.split ∙ append_assoc b.before (r ∷ b.during) (r ∷ rest);
        was-idle = b.was-idle;
        stays = b.stays;
        done = subst (λ (x : State). mode (at (step t r x) r) ≡ 2) (ap (λ (xs : List ℕ). run t xs s) b.split ∙ run-append t b.before (r ∷ b.during) s) f;
      };
      steps = sym b.split;
      then = refl;
    }
