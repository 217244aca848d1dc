-- Who stands in a list of core numbers, and how many can: a list of different numbers below n has at most n.
-- Not here: that the machine's line stays such a list (`Lined`). Assumes nothing.
use mathlib.Core.Path.{◌≡◌, refl, sym, subst}
use mathlib.Core.Logic.{◌≢◌, ◌⊎◌, inl, inr}
use mathlib.Core.Bool.{Bool, true, false}
use mathlib.Core.List.{List, [], ◌∷◌, ◌++◌}
use Prim.Native.Nat.{ℕ, zero, suc, ◌≤◌, ◌<◌}
use native.Mathlib.Nat.{le_refl}
use native.Mathlib.Omega.{arith}
use lib.Dec.{T, eqb, eqb→eq, eqb_refl}
use lib.ListN.{length}
use Rattle.protocol.specs.Step.{in_line}
use Rattle.verdict.specs.Verdict.{pick}
use Rattle.verdict.proofs.Truth.{holds, fails}
use Rattle.protocol.specs.Fair.{Once}
use Rattle.protocol.proofs.View.{at}

pub false-T : (b : Bool) → b ≡ false → T b → ⊥
false-T b e x = rw e at x

-- ---- who stands in a list

pub line-here : (x : ℕ) (xs : List ℕ) → T (in_line x (x ∷ xs))
unfolding pick
line-here x xs = rw (holds (eqb x x) (eqb_refl x)) tt

pub line_on : (k x : ℕ) (xs : List ℕ) → T (in_line k xs) → T (in_line k (x ∷ xs))
unfolding pick
line_on k x xs h = go (eqb x k)
  where
    go : (b : Bool) → T (pick b true (in_line k xs))
    go true = tt
    go false = h

pub line-cases : (k x : ℕ) (xs : List ℕ) → T (in_line k (x ∷ xs)) → (x ≡ k) ⊎ T (in_line k xs)
unfolding pick
line-cases k x xs h = go (eqb x k) refl h
  where
    go : (b : Bool) → eqb x k ≡ b → T (pick b true (in_line k xs)) → (x ≡ k) ⊎ T (in_line k xs)
    go true e h = inl (eqb→eq x k (rw e tt))
    go false e h = inr h

pub line-append : (k j : ℕ) (xs : List ℕ) → T (in_line k (xs ++ (j ∷ []))) → T (in_line k xs) ⊎ (j ≡ k)
line-append k j [] h = go (line-cases k j [] h)
  where
    go : (j ≡ k) ⊎ T (in_line k []) → T (in_line k []) ⊎ (j ≡ k)
    go (inl e) = inr e
    go (inr f) = absurd f
line-append k j (x ∷ xs) h = go (line-cases k x (xs ++ (j ∷ [])) h) (line-append k j xs)
  where
    next : T (in_line k xs) ⊎ (j ≡ k) → T (in_line k (x ∷ xs)) ⊎ (j ≡ k)
    next (inl f) = inl (line_on k x xs f)
    next (inr e) = inr e

    go : (x ≡ k) ⊎ T (in_line k (xs ++ (j ∷ []))) → (T (in_line k (xs ++ (j ∷ []))) → T (in_line k xs) ⊎ (j ≡ k)) → T (in_line k (x ∷ xs)) ⊎ (j ≡ k)
    go (inl e) again = inl (subst (λ (z : ℕ). T (in_line z (x ∷ xs))) e (line-here x xs))
    go (inr f) again = next (again f)

pub line-more : (k j : ℕ) (xs : List ℕ) → T (in_line k xs) → T (in_line k (xs ++ (j ∷ [])))
unfolding pick
line-more k j [] h = absurd h
line-more k j (x ∷ xs) h = go (eqb x k) h (line-more k j xs)
  where
    go : (b : Bool) → T (pick b true (in_line k xs)) → (T (in_line k xs) → T (in_line k (xs ++ (j ∷ [])))) → T (pick b true (in_line k (xs ++ (j ∷ []))))
    go true h again = tt
    go false h again = again h

pub once-append : (j : ℕ) (xs : List ℕ) → Once xs → in_line j xs ≡ false → Once (xs ++ (j ∷ []))
once-append j [] o e = (refl, tt)
once-append j (x ∷ xs) o e =
    (fails _ (λ h. go (line-append x j xs h)), once-append j xs o.1 (fails _ (λ h. false-T (in_line j (x ∷ xs)) e (line_on j x xs h))))
  where
    go : T (in_line x xs) ⊎ (j ≡ x) → ⊥
    go (inl h) = false-T (in_line x xs) o.0 h
    go (inr f) = false-T (in_line j (x ∷ xs)) e (subst (λ (z : ℕ). T (in_line z (x ∷ xs))) (sym f) (line-here x xs))

-- ---- a list of different numbers below n has at most n

abbrev without : ℕ → List ℕ → List ℕ
without n [] = []
without n (x ∷ xs) = pick (eqb x n) xs (x ∷ without n xs)

without-length : (n : ℕ) (xs : List ℕ) → length xs ≤ suc (length (without n xs))
unfolding pick
without-length n [] = omega arith
without-length n (x ∷ xs) = go (eqb x n) (without-length n xs)
  where
    go : (b : Bool) → length xs ≤ suc (length (without n xs)) → suc (length xs) ≤ suc (length (pick b xs (x ∷ without n xs)))
    go true h = le_refl _
    go false h = omega arith

without_in : (n j : ℕ) (xs : List ℕ) → T (in_line j (without n xs)) → T (in_line j xs)
unfolding pick
without_in n j [] h = h
without_in n j (x ∷ xs) h = go (eqb x n) h (without_in n j xs)
  where
    later : (T (in_line j (without n xs)) → T (in_line j xs)) → (x ≡ j) ⊎ T (in_line j (without n xs)) → T (in_line j (x ∷ xs))
    later again (inl e) = subst (λ (z : ℕ). T (in_line z (x ∷ xs))) e (line-here x xs)
    later again (inr f) = line_on j x xs (again f)

    go : (b : Bool) → T (in_line j (pick b xs (x ∷ without n xs))) → (T (in_line j (without n xs)) → T (in_line j xs)) → T (in_line j (x ∷ xs))
    go true h again = line_on j x xs h
    go false h again = later again (line-cases j x (without n xs) h)

without_not : (n : ℕ) (xs : List ℕ) → Once xs → T (in_line n (without n xs)) → ⊥
unfolding pick
without_not n [] o h = h
without_not n (x ∷ xs) o h = go (eqb x n) refl h (without_not n xs o.1)
  where
    later : eqb x n ≡ false → (T (in_line n (without n xs)) → ⊥) → (x ≡ n) ⊎ T (in_line n (without n xs)) → ⊥
    later e again (inl f) = false-T (eqb x n) e (rw f (eqb_refl n))
    later e again (inr f) = again f

    go : (b : Bool) → eqb x n ≡ b → T (in_line n (pick b xs (x ∷ without n xs))) → (T (in_line n (without n xs)) → ⊥) → ⊥
    go true e h again = let f : x ≡ n = eqb→eq x n (rw e tt) in false-T (in_line x xs) o.0 (rw f h)
    go false e h again = later e again (line-cases n x (without n xs) h)

without-once : (n : ℕ) (xs : List ℕ) → Once xs → Once (without n xs)
unfolding pick
without-once n [] o = tt
without-once n (x ∷ xs) o = go (eqb x n) (without-once n xs o.1)
  where
    go : (b : Bool) → Once (without n xs) → Once (pick b xs (x ∷ without n xs))
    go true again = o.1
    go false again = (fails _ (λ h. false-T (in_line x xs) o.0 (without_in n x xs h)), again)

pub few-below : (n : ℕ) (xs : List ℕ) → Once xs → ((j : ℕ) → T (in_line j xs) → j < n) → length xs ≤ n
few-below zero [] o b = le_refl 0
few-below zero (x ∷ xs) o b = absurd (omega (arith, b x (line-here x xs)))
few-below (suc n) xs o b =
    let h : length (without n xs) ≤ n = few-below n (without n xs) (without-once n xs o) (λ j f. smaller j f) in
    omega (arith, without-length n xs)
  where
    smaller : (j : ℕ) → T (in_line j (without n xs)) → j < n
    smaller j f =
        let ne : j ≢ n = λ e. without_not n xs o (rw e at f) in
        omega (arith, b j (without_in n j xs f))
