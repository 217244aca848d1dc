-- A taking in the order list. Assumes nothing.
use mathlib.Core.Path.{◌≡◌, refl, sym}
use mathlib.Core.List.{List, [], ◌∷◌}
use Prim.Native.Nat.{ℕ, ◌+◌}
use native.Mathlib.Nat.{add-zero}
use lib.ListN.{set}
use Rattle.memory.specs.Memory.{splice}
use Rattle.protocol.specs.Step.{reading, writing, encoded}

pub list-none : (list : List ℕ) (n : ℕ) → splice list n [] ≡ list
unfolding splice
list-none list n = refl

pub list-one : (list : List ℕ) (n x : ℕ) → splice list n (x ∷ []) ≡ set list n x
unfolding splice
list-one list n x = refl

pub none-listed : (list : List ℕ) (taken : ℕ) → (taken ≡ taken + 0) × (list ≡ splice list taken [])
none-listed list taken = (sym (add-zero taken), sym (list-none list taken))

pub reading-listed : (list : List ℕ) (taken k : ℕ) → (taken + 1 ≡ taken + 1) × (set list taken k ≡ splice list taken (encoded (reading k) ∷ []))
unfolding encoded
reading-listed list taken k = (refl, sym (list-one list taken k))

pub writing-listed : (list : List ℕ) (taken k : ℕ) → (taken + 1 ≡ taken + 1) × (set list taken (16 + k) ≡ splice list taken (encoded (writing k) ∷ []))
unfolding encoded
writing-listed list taken k = (refl, sym (list-one list taken (16 + k)))
