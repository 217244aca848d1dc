-- Laws of stretches of bytes: what a splice changes and what it depends on, and on what a read part or number depends. Assumes nothing.
use mathlib.Core.Path.{◌≡◌, refl, sym, ◌∙◌, subst}
use mathlib.Core.Logic.{inl, inr}
use mathlib.Core.List.{List, [], ◌∷◌}
use Prim.Native.Nat.{ℕ, zero, suc, ◌+◌, ◌≤◌, ◌<◌}
use native.Mathlib.Nat.{add-zero, add-suc, suc-add}
use native.Mathlib.Omega.{arith}
use lib.ListN.{length, get_or, set, take, drop, length-set, length-take, length-drop}
use lib.Seq.{get_or-set_other, get_or-take, get_or-drop, ext_get_or}
use Rattle.memory.specs.Memory.{splice, part, read_le}
use Rattle.memory.proofs.Number.{read-suc}
use Rattle.protocol.specs.Variables.{In}
use Rattle.races.specs.Footprint.{stretch}

-- ---- which bytes

from_first : (p n i : ℕ) → In i (stretch p n) → p ≤ i
from_first p zero i h = absurd h
from_first p (suc n) i (inl e) = omega arith
from_first p (suc n) i (inr h) = let l = from_first (suc p) n i h in omega arith

in-stretch : (p n i : ℕ) → i < n → In (p + i) (stretch p n)
in-stretch p zero i h = omega arith
in-stretch p (suc n) zero h = inl (add-zero p)
in-stretch p (suc n) (suc i) h =
    let e : suc p + i ≡ p + suc i = omega arith in
    inr (subst (λ (a : ℕ). In a (stretch (suc p) n)) e (in-stretch (suc p) n i (omega arith)))

-- ---- writing

-- what is stored at a place does not depend on what was there
pub store_same : (l l' : List ℕ) (i v : ℕ) → length l ≡ length l' → get_or (set l i v) i 0 ≡ get_or (set l' i v) i 0
store_same [] [] i v e = refl
store_same [] (y ∷ ys) i v e = absurd (omega arith)
store_same (x ∷ xs) [] i v e = absurd (omega arith)
store_same (x ∷ xs) (y ∷ ys) zero v e = refl
store_same (x ∷ xs) (y ∷ ys) (suc i) v e = store_same xs ys i v (omega arith)

-- a splice keeps the bytes outside
pub splice-outside : (s : List ℕ) (p : ℕ) (ys : List ℕ) (i : ℕ) → (In i (stretch p (length ys)) → ⊥) → get_or s i 0 ≡ get_or (splice s p ys) i 0
unfolding splice
splice-outside s p [] i n = refl
splice-outside s p (y ∷ ys) i n = sym (get_or-set_other s p i y 0 (λ e. n (inl e))) ∙ splice-outside (set s p y) (suc p) ys i (λ h. n (inr h))

-- what it writes does not depend on what was there
pub splice-inside : (s s' : List ℕ) (p : ℕ) (ys : List ℕ) (i : ℕ) → length s ≡ length s' → In i (stretch p (length ys)) → get_or (splice s p ys) i 0 ≡ get_or (splice s' p ys) i 0
unfolding splice
splice-inside s s' p [] i e h = absurd h
splice-inside s s' p (y ∷ ys) i e (inl z) =
    let passed : (In i (stretch (suc p) (length ys)) → ⊥) = λ h. let l = from_first (suc p) (length ys) i h in omega arith in
    sym (splice-outside (set s p y) (suc p) ys i passed) ∙ rw z (store_same s s' p y e) ∙ splice-outside (set s' p y) (suc p) ys i passed
splice-inside s s' p (y ∷ ys) i e (inr h) = splice-inside (set s p y) (set s' p y) (suc p) ys i (length-set s p y ∙ e ∙ sym (length-set s' p y)) h

-- ---- reading

module _ (d d' : List ℕ) where
  -- the number there
  pub read_alike : (p n : ℕ) → ((i : ℕ) → In i (stretch p n) → get_or d i 0 ≡ get_or d' i 0) → read_le d p n ≡ read_le d' p n
  unfolding read_le part
  read_alike p zero h = refl
  read_alike p (suc n) h = read-suc d p n ∙ rw (read_alike (suc p) n (λ i x. h i (inr x)), h p (inl refl)) (sym (read-suc d' p n))

  -- the bytes there
  pub part-alike : (p n : ℕ) → length d ≡ length d' → ((i : ℕ) → In i (stretch p n) → get_or d i 0 ≡ get_or d' i 0) → part d p n ≡ part d' p n
  unfolding part
  part-alike p n e h = ext_get_or 0 (take n (drop p d)) (take n (drop p d')) same_length (λ i l. each i (below i l))
    where
      same_length : length (take n (drop p d)) ≡ length (take n (drop p d'))
      same_length = simp (length-take, length-drop) (rw e)

      below : (i : ℕ) → i < length (take n (drop p d)) → i < n
      below i l = omega (arith, rw (length-take n (drop p d)) at l)

      each : (i : ℕ) → i < n → get_or (take n (drop p d)) i 0 ≡ get_or (take n (drop p d')) i 0
      each i l = get_or-take n (drop p d) i 0 l ∙ get_or-drop p d i 0 ∙ h (p + i) (in-stretch p n i l) ∙ sym (get_or-take n (drop p d') i 0 l ∙ get_or-drop p d' i 0)
