-- Variables that stand in order in every memory are apart. In order: one more stretch; the variables. Assumes nothing.
use mathlib.Core.Path.{◌≡◌, refl, sym, ◌∙◌, subst}
use mathlib.Core.Bool.{Bool, true, false}
use mathlib.Core.List.{List}
use mathlib.Core.Logic.{inl}
use Prim.Native.Nat.{ℕ, zero, suc, ◌+◌, ◌-◌, ◌≤◌, ◌<◌}
use native.Mathlib.Omega.{arith}
use borrow.Author.Tests.{eqb-true, eqb-false}
use lib.Dec.{eqb}
use Rattle.verdict.specs.Verdict.{first}
use Rattle.verdict.proofs.Truth.{holds}
use Rattle.verdict.proofs.Verdict.{absurd-bool, pick-false, zero-first}
use Rattle.protocol.specs.Variables.{local}
use Rattle.records.specs.File.{variables, record_place, variable_in, variable_at}
use Rattle.records.specs.Records.{used_by, overlap, pair_refusal, overlap_refusal}
use Rattle.records.specs.Order.{Rising, RisingIn, RisingAll}
use Rattle.records.proofs.Exact.{named-low, overlap-not}

-- ---- one more stretch

module _ (counts : ℕ → Bool) (place width : ℕ → ℕ) where
  -- the first i stretches rise, and end before `end`
  pub record Risen (i end : ℕ) : Type 0 where
    pub rising : Rising counts place width i
    pub under : (j : ℕ) → j < i → counts j ≡ true → place j + width j ≤ end

  pub risen-none : Risen 0 0
  risen-none = record { rising = λ i j h l. absurd (let y : ⊥ = omega arith in y); under = λ j l. absurd (let y : ⊥ = omega arith in y) }

  -- a stretch that does not count
  pub risen-skip : (i end : ℕ) → Risen i end → counts i ≡ false → Risen (i + 1) end
  risen-skip i end r e = record { rising = λ a b h l x y. rising a b h l x y (eqb b i) refl; under = λ j l x. under j l x (eqb j i) refl }
    where
      not-here : {A : Type 0} (j : ℕ) → counts j ≡ true → eqb j i ≡ true → A
      not-here j x q = absurd-bool (sym e ∙ subst (λ (n : ℕ). counts n ≡ true) (eqb-true j i q) x)

      rising : (a b : ℕ) → a < b → b < i + 1 → counts a ≡ true → counts b ≡ true → (q : Bool) → eqb b i ≡ q → place a + width a ≤ place b
      rising a b h l x y true q = not-here b y q
      rising a b h l x y false q = r.rising a b h (omega (arith, eqb-false b i q)) x y

      under : (j : ℕ) → j < i + 1 → counts j ≡ true → (q : Bool) → eqb j i ≡ q → place j + width j ≤ end
      under j l x true q = not-here j x q
      under j l x false q = r.under j (omega (arith, eqb-false j i q)) x

  -- one that begins at the end or behind it
  pub risen-more : (i end : ℕ) → Risen i end → end ≤ place i → Risen (i + 1) (place i + width i)
  risen-more i end r e = record { rising = λ a b h l x y. rising a b h l x y (eqb b i) refl; under = λ j l x. under j l x (eqb j i) refl }
    where
      before : (a : ℕ) → a < i → counts a ≡ true → place a + width a ≤ place i
      before a l x = omega (arith, r.under a l x)

      rising : (a b : ℕ) → a < b → b < i + 1 → counts a ≡ true → counts b ≡ true → (q : Bool) → eqb b i ≡ q → place a + width a ≤ place b
      rising a b h l x y true q =
          let n : b ≡ i = eqb-true b i q in
          subst (λ (z : ℕ). place a + width a ≤ place z) (sym n) (before a (omega arith) x)
      rising a b h l x y false q = r.rising a b h (omega (arith, eqb-false b i q)) x y

      under : (j : ℕ) → j < i + 1 → counts j ≡ true → (q : Bool) → eqb j i ≡ q → place j + width j ≤ place i + width i
      under j l x true q =
          let n : j ≡ i = eqb-true j i q in
          subst (λ (z : ℕ). place z + width z ≤ place i + width i) (sym n) (omega arith)
      under j l x false q = omega (arith, before j (omega (arith, eqb-false j i q)) x)

  pub risen-end : (i end m : ℕ) → Risen i end → m ≤ i → Rising counts place width m
  risen-end i end m r e = λ a b h l. r.rising a b h (omega arith)

-- ---- the variables

-- the first i variables in shared memory
abbrev pub RisenShared : List ℕ → ℕ → ℕ → Type 0
RisenShared f = Risen (λ i. true) (λ i. (variable_at f i).place) (λ i. (variable_at f i).width)

-- in the data of core k
abbrev pub RisenIn : List ℕ → ℕ → ℕ → ℕ → Type 0
RisenIn f k = Risen (λ i. used_by k (variable_at f i)) (λ i. local k (variable_at f i)) (λ i. (variable_at f i).width)

-- one more, with the place of its record
module _ (f : List ℕ) (i end p : ℕ) (at : p ≡ record_place f i) where
  pub shared-more : RisenShared f i end → (place width : ℕ) → place ≡ (variable_in f p).place → width ≡ (variable_in f p).width → end ≤ place
      → RisenShared f (i + 1) (place + width)
  shared-more r place width e w h = rw (e, w, at) (risen-more _ _ _ i end r (rw (sym at, sym e) h))

  pub in-more : (k : ℕ) → RisenIn f k i end → (place width : ℕ) → place ≡ local k (variable_in f p) → width ≡ (variable_in f p).width → end ≤ place
      → RisenIn f k (i + 1) (place + width)
  in-more k r place width e w h =
      let there : end ≤ local k (variable_at f i) = subst (λ (x : ℕ). end ≤ local k (variable_in f x)) at (rw (sym e) h) in
      rw (e, w) (subst (λ (x : ℕ). RisenIn f k (i + 1) (local k (variable_in f x) + (variable_in f x).width)) (sym at) (risen-more _ _ _ i end r there))

  pub in-skip : (k : ℕ) → RisenIn f k i end → (b : Bool) → b ≡ used_by k (variable_in f p) → b ≡ false → RisenIn f k (i + 1) end
  in-skip k r b e z = risen-skip _ _ _ i end r (rw (sym at) (sym e ∙ z))

pub each-core : (f : List ℕ) (m : ℕ) → RisingIn f 0 m → RisingIn f 1 m → RisingIn f 2 m → RisingIn f 3 m → (k : ℕ) → k < 4 → RisingIn f k m
each-core f m a b c d zero h = a
each-core f m a b c d (suc zero) h = b
each-core f m a b c d (suc (suc zero)) h = c
each-core f m a b c d (suc (suc (suc zero))) h = d
each-core f m a b c d (suc (suc (suc (suc k)))) h = absurd (let y : ⊥ = omega arith in y)

pub none-overlaps : (f : List ℕ) (m : ℕ) → m ≡ variables f → RisingAll f m → 0 ≡ first (overlap_refusal f) (m - 0) 0
unfolding overlap_refusal pair_refusal
none-overlaps f m e r =
    sym (zero-first (overlap_refusal f) (m - 0) 0 (λ i _ h. zero-first (pair_refusal f i) (variables f - (i + 1)) (i + 1) (λ j l n. pick-false _ 5 0 (clear i j (omega arith) (omega arith)))))
  where
    clear : (i j : ℕ) → i < j → j < m → overlap (variable_at f i) (variable_at f j) ≡ false
    clear i j l h =
        overlap-not (variable_at f i) (variable_at f j)
        (record {
          in-shared = inl (r.shared i j l h refl refl);
          in-data = λ k t s. inl (r.each k (named-low k (variable_at f i) t) i j l h (holds _ t) (holds _ s));
        })
