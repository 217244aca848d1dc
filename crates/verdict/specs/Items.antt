-- Rules in words, each with its refusal number, in the order in which they are judged; and which number that order gives.
-- In order: numbers on a list; items; the first that is broken. Not here: judgements that are computed (`Verdict`).
use Rattle.std.specs.Prelude.{ℕ, zero, suc, ◌+◌, ◌≤◌, ◌≡◌, ◌⊎◌, List, [], ◌∷◌, ◌++◌}

-- ---- numbers on a list

-- lo..hi, both included
abbrev pub From : ℕ → ℕ → ℕ → Type 0
From lo hi x = (lo ≤ x) × (x ≤ hi)

-- x is one of these
abbrev pub OneOf : List ℕ → ℕ → Type 0
OneOf [] x = ⊥
OneOf (a ∷ l) x = (x ≡ a) ⊎ OneOf l x

-- n numbers from i on
abbrev pub numbers : ℕ → ℕ → List ℕ
numbers zero i = []
numbers (suc n) i = i ∷ numbers n (i + 1)

-- ---- items

-- a rule, and the number of what breaks it
pub record Item : Type 1 where
  pub number : ℕ
  pub rule : Type 0

abbrev pub item : ℕ → Type 0 → Item
item r rule = record { number = r; rule = rule }

-- the items of each thing on a list, end to end
abbrev pub for_each : List ℕ → (ℕ → List Item) → List Item
for_each [] items = []
for_each (x ∷ xs) items = items x ++ for_each xs items

-- sections of items, one after another
abbrev pub in_turn : List (List Item) → List Item
in_turn [] = []
in_turn (is ∷ sections) = is ++ in_turn sections

-- ---- the first that is broken

-- r is the number of the first item whose rule is broken, 0 where none is
pub data First : List Item → ℕ → Type 1 where
  none : First [] 0
  broken : {i : Item} {is : List Item} → (i.rule → ⊥) → First (i ∷ is) i.number
  kept : {i : Item} {is : List Item} {r : ℕ} → i.rule → First is r → First (i ∷ is) r
