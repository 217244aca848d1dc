-- The takings one after another: the first of those that are left, and the end. Assumes nothing.
use mathlib.Core.Path.{◌≡◌, refl, ap}
use mathlib.Core.List.{List, [], ◌++◌, map}
use Prim.Native.Nat.{ℕ, ◌+◌, ◌≤◌, ◌<◌}
use lib.ListN.{length, drop, get_or, drop_of_length-le}
use Rattle.memory.specs.Memory.{flat}
use Rattle.listing.specs.Listing.{taking_text}
use Rattle.listing.proofs.Writing.{one_of}

pub length-taking : (b : ℕ) → 3 ≡ length (taking_text b)
unfolding taking_text
length-taking b = refl

pub first-taking : (list : List ℕ) (i : ℕ) → i < length list → flat (map taking_text (drop i list)) ≡ taking_text (get_or list i 0) ++ flat (map taking_text (drop (i + 1) list))
unfolding flat
first-taking list i h = ap (λ (l : List ℕ). flat (map taking_text l)) (one_of list i 0 h)

pub last-taking : (list : List ℕ) (i : ℕ) → length list ≤ i → flat (map taking_text (drop i list)) ≡ []
unfolding flat
last-taking list i h = ap (λ (l : List ℕ). flat (map taking_text l)) (drop_of_length-le list {i = i} h)
