-- The places that a step reads and writes: they can be told apart, lists of them searched, and states that are the same at every place are the same.
-- Not here: which places a step has (`Footprint`). Assumes nothing.
use mathlib.Core.Path.{◌≡◌, refl, sym, ap, subst}
use mathlib.Core.Logic.{◌≢◌, inl, inr}
use mathlib.Core.List.{List, [], ◌∷◌}
use Prim.Native.Nat.{ℕ}
use native.Mathlib.Decide.{map_dec, ℕ_discrete}
use native.Mathlib.Omega.{arith}
use lib.ListN.{length, get_or}
use lib.Seq.{ext_get_or}
use Rattle.protocol.specs.State.{Core, State, absent}
use Rattle.protocol.specs.Variables.{In}
use Rattle.races.specs.Footprint.{Place, control, local, byte, semaphore, Control, control_of, SameAt, locals}
use Rattle.protocol.proofs.View.{at}

pub never : ◌≡◌ {A = ℕ} 0 1 → ⊥
never z = omega arith

-- places and lists of places can be told apart
place? : (p q : Place) → Dec (p ≡ q)
place? (control i) (control k) = map_dec (ap control) (λ e. cc) (ℕ_discrete i k)
place? (local i a) (local k b) = go (ℕ_discrete i k) (ℕ_discrete a b)
  where
    go : Dec (i ≡ k) → Dec (a ≡ b) → Dec (local i a ≡ local k b)
    go (yes e) (yes z) = yes (λ x. local (e x) (z x))
    go (yes e) (no n) = no (λ z. n (cc))
    go (no n) d = no (λ z. n (cc))
place? (byte i) (byte k) = map_dec (ap byte) (λ e. cc) (ℕ_discrete i k)
place? semaphore semaphore = yes refl
place? (control i) (local k b) = no (λ e. never (cc))
place? (control i) (byte k) = no (λ e. never (cc))
place? (control i) semaphore = no (λ e. never (cc))
place? (local i a) (control k) = no (λ e. never (cc))
place? (local i a) (byte k) = no (λ e. never (cc))
place? (local i a) semaphore = no (λ e. never (cc))
place? (byte i) (control k) = no (λ e. never (cc))
place? (byte i) (local k b) = no (λ e. never (cc))
place? (byte i) semaphore = no (λ e. never (cc))
place? semaphore (control k) = no (λ e. never (cc))
place? semaphore (local k b) = no (λ e. never (cc))
place? semaphore (byte k) = no (λ e. never (cc))

pub in? : (p : Place) (ps : List Place) → Dec (In p ps)
in? p [] = no (λ h. h)
in? p (q ∷ ps) = go (place? p q) (in? p ps)
  where
    none_of : p ≢ q → (In p ps → ⊥) → In p (q ∷ ps) → ⊥
    none_of n m (inl e) = n e
    none_of n m (inr h) = m h

    go : Dec (p ≡ q) → Dec (In p ps) → Dec (In p (q ∷ ps))
    go (yes e) d = yes (inl e)
    go (no n) (yes h) = yes (inr h)
    go (no n) (no m) = no (none_of n m)

-- the bytes of a core's data among places
pub in-locals : (k : ℕ) (is : List ℕ) (i : ℕ) → In i is → In (local k i) (locals k is)
in-locals k [] i h = h
in-locals k (x ∷ is) i (inl e) = inl (ap (local k) e)
in-locals k (x ∷ is) i (inr h) = inr (in-locals k is i h)

pub by-local : (P : Place → Type 0) (k : ℕ) (is : List ℕ) → ((i : ℕ) → In i is → P (local k i)) → (p : Place) → In p (locals k is) → P p
by-local P k [] f p h = absurd h
by-local P k (x ∷ is) f p (inl e) = subst P (sym e) (f x (inl refl))
by-local P k (x ∷ is) f p (inr h) = by-local P k is (λ i m. f i (inr m)) p h

-- a core is its registers with its call stack, and its data
abbrev pub with_data : Control → List ℕ → Core
with_data c m = record { registers = c.registers; stack = c.stack; memory = m }

-- what holds of c's registers and call stack with the data of c' holds of c', where these are the same
pub by-control : (P : Core → Type 0) (c c' : Core) → control_of c ≡ control_of c' → P (with_data (control_of c) c'.memory) → P c'
by-control P c c' e x = subst (λ (z : Control). P (with_data z c'.memory)) e x

same-core : (c c' : Core) → control_of c ≡ control_of c' → length c.memory ≡ length c'.memory → ((i : ℕ) → get_or c.memory i 0 ≡ get_or c'.memory i 0) → c ≡ c'
same-core c c' e l m = λ x. record { registers = (e x).registers; stack = (e x).stack; memory = ext_get_or 0 c.memory c'.memory l (λ i h. m i) x }

-- states that have the same everywhere are the same
pub same-state : (s s' : State) → length s.plant.cores ≡ length s'.plant.cores → ((k : ℕ) → length (at s k).memory ≡ length (at s' k).memory)
    → length s.plant.shared ≡ length s'.plant.shared → ((p : Place) → SameAt p s s') → s ≡ s'
same-state s s' a l b h =
    λ x. record {
      plant = record {
        cores = ext_get_or absent s.plant.cores s'.plant.cores a (λ k z. same-core (at s k) (at s' k) (h (control k)) (l k) (λ i. h (local k i))) x;
        shared = ext_get_or 0 s.plant.shared s'.plant.shared b (λ i z. h (byte i)) x;
      };
      semaphore = h semaphore x;
    }
