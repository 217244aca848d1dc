-- Laws of `specs/Verdict`. Callers prove by these, never by unfolding `next`, `unless`, `first` or `pick`.
-- In order: `pick`; a chain of items, forward (what a return shows) and backward (what acceptance says); tests; a loop over items.
-- Not here: truth values, and tests as properties (`Truth`). Assumes nothing.
use mathlib.Core.Path.{◌≡◌, refl, sym, ap, ◌∙◌, subst}
use mathlib.Core.Bool.{Bool, true, false}
use Prim.Native.Nat.{ℕ, zero, suc, ◌+◌, ◌-◌, ◌≤◌, ◌<◌}
use native.Mathlib.Omega.{arith}
use borrow.Author.Tests.{eqb-true, eqb-false, leb-true, le-leb}
use lib.Dec.{T, eqb, leb}
use Rattle.verdict.proofs.Truth.{holds, fails, both_of}
use Rattle.verdict.specs.Verdict.{pick, both, either, within, upto, next, unless, first}

pub absurd-bool {ℓ} : {A : Type ℓ} → false ≡ true → A
absurd-bool e = absurd (subst T (sym e) tt)

-- ---- choosing by a test

pub pick_true {ℓ} : {A : Type ℓ} (b : Bool) (x y : A) → b ≡ true → pick b x y ≡ x
unfolding pick
pick_true b x y e = rw e

pub pick-false {ℓ} : {A : Type ℓ} (b : Bool) (x y : A) → b ≡ false → pick b x y ≡ y
unfolding pick
pick-false b x y e = rw e

-- a property of both choices, each under what its test says
pub by-pick {ℓ} : {A : Type ℓ} (P : A → Type 0) (b : Bool) (x y : A) → (b ≡ true → P x) → (b ≡ false → P y) → P (pick b x y)
unfolding pick
by-pick P true x y f g = f refl
by-pick P false x y f g = g refl

-- a function of a choice is a choice
pub pick-ap {ℓ} : {A B : Type ℓ} (f : A → B) (b : Bool) (x y : A) → f (pick b x y) ≡ pick b (f x) (f y)
unfolding pick
pick-ap f true x y = refl
pick-ap f false x y = refl

-- ---- a chain of items, forward

pub skip : {a b r : ℕ} → a ≡ 0 → r ≡ b → r ≡ next a b
unfolding next
skip {a} {b} {r} z e = subst (λ (x : ℕ). r ≡ next x b) (sym z) e

stop-at : (a b : ℕ) → (a ≡ 0 → ⊥) → a ≡ next a b
unfolding next
stop-at zero b nz = absurd (nz refl)
stop-at (suc a) b nz = refl

pub stop : {a r : ℕ} (b : ℕ) → r ≡ a → (r ≡ 0 → ⊥) → r ≡ next a b
stop {a} {r} b e nz = e ∙ stop-at a b (λ z. nz (e ∙ z))

pub halt : {a : ℕ} (n b : ℕ) → a ≡ suc n → suc n ≡ next a b
halt n b e = stop b (sym e) (λ z. let y : ⊥ = omega arith in y)

pub yes : (b : Bool) (r : ℕ) → b ≡ true → unless b r ≡ 0
unfolding unless
yes b r e = rw e

pub no : (b : Bool) (r : ℕ) → b ≡ false → unless b r ≡ r
unfolding unless
no b r e = rw e

-- ---- the same, backward

pub next-zero : (a b : ℕ) → next a b ≡ 0 → (a ≡ 0) × (b ≡ 0)
unfolding next
next-zero zero b e = (refl, e)
next-zero (suc a) b e = absurd (let y : ⊥ = omega arith in y)

pub next-none : (a b : ℕ) → a ≡ 0 → b ≡ 0 → next a b ≡ 0
next-none a b e f = sym (skip e (sym f))

pub unless-zero : (b : Bool) (r : ℕ) → unless b (suc r) ≡ 0 → b ≡ true
unfolding unless
unless-zero true r e = refl
unless-zero false r e = absurd (let y : ⊥ = omega arith in y)

pub pick-zero : (b : Bool) (r : ℕ) → pick b (suc r) 0 ≡ 0 → b ≡ false
unfolding pick
pick-zero true r e = absurd (let y : ⊥ = omega arith in y)
pick-zero false r e = refl

-- ---- tests put together

pub both_true : (a b : Bool) → both a b ≡ true → (a ≡ true) × (b ≡ true)
both_true true b e = (refl, e)
both_true false b e = absurd-bool e

pub both-not : (a b : Bool) → (a ≡ true → b ≡ true → ⊥) → both a b ≡ false
both-not true true h = absurd (h refl refl)
both-not true false h = refl
both-not false b h = refl

pub either_true : (b : Bool) → either b true ≡ true
either_true true = refl
either_true false = refl

pub either-false : (b : Bool) → either b false ≡ b
either-false true = refl
either-false false = refl

pub inside : (lo hi x : ℕ) → lo ≤ x → x ≤ hi → within lo hi x ≡ true
inside lo hi x h k = rw (le-leb lo x h) (le-leb x hi k)

pub inside-true : (lo hi x : ℕ) → within lo hi x ≡ true → (lo ≤ x) × (x ≤ hi)
inside-true lo hi x e =
    let a = both_true (leb lo x) (leb x hi) e in
    (leb-true _ _ a.0, leb-true _ _ a.1)

pub outside : (lo hi x : ℕ) → (lo ≤ x → x ≤ hi → ⊥) → within lo hi x ≡ false
outside lo hi x h = both-not _ _ (λ a b. h (leb-true _ _ a) (leb-true _ _ b))

-- ---- a computed test of each number below n holds of one: how a table's rule is proved

pub below : (f : ℕ → Bool) (n : ℕ) → T (upto f n) → (k : ℕ) → k < n → T (f k)
below f zero t k h = absurd (let z : ⊥ = omega arith in z)
below f (suc n) t k h = go (below f n (both_of (f n) (upto f n) t).1 k) (eqb k n) refl
  where
    go : (k < n → T (f k)) → (b : Bool) → eqb k n ≡ b → T (f k)
    go ih true e = rw (eqb-true k n e) (both_of (f n) (upto f n) t).0
    go ih false e =
        let q : (k ≡ n → ⊥) = eqb-false k n e in
        ih (omega arith)

-- where it fails of one, it fails
pub upto-not : (f : ℕ → Bool) (n k : ℕ) → k < n → f k ≡ false → upto f n ≡ false
upto-not f n k h e = fails (upto f n) (λ t. absurd-bool (sym e ∙ holds (f k) (below f n t k h)))

-- ---- a loop over the items s .. n: what is left from i on is what was asked

first_one : (g : ℕ → ℕ) (n i : ℕ) → i < n → first g (n - i) i ≡ next (g i) (first g (n - (i + 1)) (i + 1))
unfolding first
first_one g n i h =
    let e : n - i ≡ suc (n - (i + 1)) = omega arith in
    ap (λ (k : ℕ). first g k i) e

pub record Going (g : ℕ → ℕ) (s n i : ℕ) : Type 0 where
  pub from : s ≤ i
  pub rest : first g (n - s) s ≡ first g (n - i) i

pub going-none : (g : ℕ → ℕ) (s n : ℕ) → Going g s n s
going-none g s n = record { from = omega arith; rest = refl }

pub going_more : (g : ℕ → ℕ) (s n i : ℕ) → Going g s n i → i < n → g i ≡ 0 → Going g s n (i + 1)
unfolding next
going_more g s n i r h z =
    record {
      from = omega (arith, r.from);
      rest = r.rest ∙ first_one g n i h ∙ ap (λ (x : ℕ). next x (first g (n - (i + 1)) (i + 1))) z;
    }

pub going-stop : (g : ℕ → ℕ) (s n i r : ℕ) → Going g s n i → i < n → r ≡ g i → (r ≡ 0 → ⊥) → r ≡ first g (n - s) s
going-stop g s n i r w h e nz = stop _ e nz ∙ sym (w.rest ∙ first_one g n i h)

pub going_end : (g : ℕ → ℕ) (s n i : ℕ) → Going g s n i → n ≤ i → 0 ≡ first g (n - s) s
unfolding first
going_end g s n i w h =
    let e : n - i ≡ 0 = omega arith in
    sym (w.rest ∙ ap (λ (k : ℕ). first g k i) e)

-- no refusal of all items is none of each, and the other way round
pub first-zero : (g : ℕ → ℕ) (k i : ℕ) → first g k i ≡ 0 → (j : ℕ) → i ≤ j → j < i + k → g j ≡ 0
unfolding first
first-zero g zero i z j a b = absurd (let y : ⊥ = omega arith in y)
first-zero g (suc k) i z j a b =
    go (λ (h : i + 1 ≤ j). first-zero g k (i + 1) (next-zero _ _ z).1 j h (omega arith)) (eqb i j) refl
  where
    go : (i + 1 ≤ j → g j ≡ 0) → (t : Bool) → eqb i j ≡ t → g j ≡ 0
    go ih true e = rw (sym (eqb-true i j e)) (next-zero _ _ z).0
    go ih false e =
        let n : (i ≡ j → ⊥) = eqb-false i j e in
        ih (omega arith)

pub zero-first : (g : ℕ → ℕ) (k i : ℕ) → ((j : ℕ) → i ≤ j → j < i + k → g j ≡ 0) → first g k i ≡ 0
unfolding first
zero-first g zero i h = refl
zero-first g (suc k) i h =
    next-none _ _ (h i (omega arith) (omega arith)) (zero-first g k (i + 1) (λ j a b. h j (omega arith) (omega arith)))
