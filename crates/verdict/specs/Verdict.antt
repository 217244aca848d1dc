-- Judgements as numbers: document 01's refusal number, or 0 for none, and how the judgements of items are put together.
-- In order: choosing by a test; tests put together; a chain of items; a list of items.
use Rattle.std.specs.Prelude.{ℕ, zero, suc, ◌+◌, Bool, true, false, leb}

-- ---- choosing by a test

-- a where the test holds, else b
unfoldable pub pick {ℓ} : {A : Type ℓ} → Bool → A → A → A
pick true a b = a
pick false a b = b

-- ---- tests put together

abbrev pub both : Bool → Bool → Bool
both true b = b
both false b = false

abbrev pub either : Bool → Bool → Bool
either true b = true
either false b = b

-- x lies in the range from lo to hi, both included
abbrev pub within : ℕ → ℕ → ℕ → Bool
within lo hi x = both (leb lo x) (leb x hi)

-- the test holds of each number below n
abbrev pub upto : (ℕ → Bool) → ℕ → Bool
upto f zero = true
upto f (suc n) = both (f n) (upto f n)

-- ---- a chain of items

-- the first refusal: a, and b only where a is none
unfoldable pub next : ℕ → ℕ → ℕ
next zero b = b
next (suc a) b = suc a

-- refusal r unless the test holds
unfoldable pub unless : Bool → ℕ → ℕ
unless true r = 0
unless false r = r

-- ---- a list of items

-- the first refusal of k items, from item i on, where item j's own refusal is g j
unfoldable pub first : (ℕ → ℕ) → ℕ → ℕ → ℕ
first g zero i = 0
first g (suc k) i = next (g i) (first g k (i + 1))
