-- More laws of `listed`. Assumes nothing.
use mathlib.Core.Path.{◌≡◌, refl, sym, ap, ap₂, ◌∙◌}
use mathlib.Core.Logic.{◌≢◌}
use mathlib.Core.List.{◌∷◌}
use Prim.Native.Nat.{ℕ, zero, suc, ◌+◌, ◌≤◌, ◌<◌}
use native.Mathlib.Nat.{add-zero, le_of_suc-le-suc, not-suc-le-zero}
use native.Mathlib.Omega.{arith}
use lib.ListN.{get_or, set}
use Rattle.taskset.specs.Task.{listed}

-- past the last item
listed-past : {A : Type 0} (f : ℕ → A) (n i k : ℕ) (d : A) → n ≤ k → get_or (listed f n i) k d ≡ d
unfolding listed
listed-past f zero i k d h = refl
listed-past f (suc n) i zero d h = absurd (not-suc-le-zero h)
listed-past f (suc n) i (suc k) d h = listed-past f n (suc i) k d (le_of_suc-le-suc h)

pub listed-none : {A : Type 0} (f : ℕ → A) (n k : ℕ) (d : A) → n ≤ k → get_or (listed f n 0) k d ≡ d
listed-none f n k d h = listed-past f n 0 k d h

-- two tables with the same items
listed-ext : {A : Type 0} (f g : ℕ → A) (n i : ℕ) → ((j : ℕ) → i ≤ j → j < i + n → f j ≡ g j) → listed f n i ≡ listed g n i
unfolding listed
listed-ext f g zero i h = refl
listed-ext f g (suc n) i h = ap₂ ◌∷◌ (h i (omega arith) (omega arith)) (listed-ext f g n (suc i) (λ j a b. h j (omega arith) (omega arith)))

pub listed_same : {A : Type 0} (f g : ℕ → A) (n : ℕ) → ((j : ℕ) → j < n → f j ≡ g j) → listed f n 0 ≡ listed g n 0
listed_same f g n h = listed-ext f g n 0 (λ j a b. h j (omega arith))

set-from : {A : Type 0} (f g : ℕ → A) (n i k : ℕ) → k < n → ((j : ℕ) → j ≢ i + k → g j ≡ f j) → listed g n i ≡ set (listed f n i) k (g (i + k))
unfolding listed
set-from f g zero i k h e = absurd (not-suc-le-zero h)
set-from f g (suc n) i zero h e =
    ap₂ ◌∷◌ (ap g (sym (add-zero i))) (listed-ext g f n (suc i) (λ j a b. e j (λ z. omega arith)))
set-from f g (suc n) i (suc k) h e =
    let q : i + suc k ≡ suc i + k = omega arith in
    ap₂ ◌∷◌ (e i (λ z. omega arith)) (set-from f g n (suc i) k (le_of_suc-le-suc h) (λ j z. e j (λ w. z (w ∙ q))) ∙ ap (λ (m : ℕ). set (listed f n (suc i)) k (g m)) (sym q))

-- one item changed
pub listed-set : {A : Type 0} (f g : ℕ → A) (n k : ℕ) (x : A) → k < n → g k ≡ x → ((j : ℕ) → j ≢ k → g j ≡ f j) → listed g n 0 ≡ set (listed f n 0) k x
listed-set f g n k x h e o =
    let q : 0 + k ≡ k = omega arith in
    set-from f g n 0 k h (λ j z. o j (λ w. z (w ∙ sym q))) ∙ ap (set (listed f n 0) k) (ap g q ∙ e)
