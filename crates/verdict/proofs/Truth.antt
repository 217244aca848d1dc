-- Truth values, and tests as properties (`T b` is inhabited exactly if b is true). In order: a test and its value; tests put together, as properties and
-- as values. Not here: choosing by a test, tests of numbers, chains of items (`Verdict`). Assumes nothing.
use mathlib.Core.Path.{◌≡◌, refl, sym, ap, ◌∙◌, subst}
use mathlib.Core.Bool.{Bool, true, false, not}
use mathlib.Core.Logic.{◌⊎◌, inl, inr}
use lib.Dec.{T}
use Rattle.verdict.specs.Verdict.{both, either}

-- ---- a test and its value

pub holds : (b : Bool) → T b → b ≡ true
holds true h = refl
holds false h = absurd h

pub tested : (b : Bool) → b ≡ true → T b
tested b e = subst T (sym e) tt

pub fails : (b : Bool) → (T b → ⊥) → b ≡ false
fails true h = absurd (h tt)
fails false h = refl

-- ---- tests put together, as properties

pub both_of : (a b : Bool) → T (both a b) → T a × T b
both_of true b h = (tt, h)
both_of false b h = absurd h

pub of-both : (a b : Bool) → T a → T b → T (both a b)
of-both true b x y = y
of-both false b x y = absurd x

pub either-of : (a b : Bool) → T (either a b) → T a ⊎ T b
either-of true b h = inl tt
either-of false b h = inr h

pub either_left : (a b : Bool) → T a → T (either a b)
either_left true b h = tt
either_left false b h = absurd h

pub either-right : (a b : Bool) → T b → T (either a b)
either-right true b h = tt
either-right false b h = h

-- ---- as values: one after another, and in the other order

pub either-skip : {a b r : Bool} → a ≡ false → r ≡ b → r ≡ either a b
either-skip {b = b} e q = q ∙ ap (λ (x : Bool). either x b) (sym e)

pub either-stop : {a : Bool} (b : Bool) → a ≡ true → true ≡ either a b
either-stop b e = ap (λ (x : Bool). either x b) (sym e)

pub both-skip : {a b r : Bool} → a ≡ true → r ≡ b → r ≡ both a b
both-skip {b = b} e q = q ∙ ap (λ (x : Bool). both x b) (sym e)

pub both-stop : {a : Bool} (b : Bool) → a ≡ false → false ≡ both a b
both-stop b e = ap (λ (x : Bool). both x b) (sym e)

pub both-swap : (a b : Bool) → both a b ≡ both b a
both-swap true true = refl
both-swap true false = refl
both-swap false true = refl
both-swap false false = refl

pub either-swap : (a b : Bool) → either a b ≡ either b a
either-swap true true = refl
either-swap true false = refl
either-swap false true = refl
either-swap false false = refl

pub not-not : (a : Bool) → not (not a) ≡ a
not-not true = refl
not-not false = refl
