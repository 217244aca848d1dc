-- The tests of crate protocol, specs/Cycles, as the code makes them: by pairs of cores, and by the seven rings of four cores.
-- In order: a relation of four cores as truth values; pairs; rings. Not here: that the tests are those of the definitions (crate protocol, proofs/Tests).
-- Assumes nothing.
use mathlib.Core.Path.{◌≡◌, refl, sym, ap, ◌∙◌}
use mathlib.Core.Bool.{Bool, true, false, not}
use mathlib.Core.List.{List, [], ◌∷◌}
use Prim.Native.Nat.{ℕ, ◌+◌, ◌*◌}
use lib.Dec.{eqb}
use lib.ListN.{get_or}
use Rattle.verdict.specs.Verdict.{both, either}
use Rattle.protocol.specs.Variables.{Variable}
use Rattle.protocol.specs.Cycles.{reads_from, line_between, every, is_one_way, no_ring}
use Rattle.verdict.proofs.Truth.{both-swap, either-swap, not-not}
use Rattle.verdict.proofs.Verdict.{both_true}
use Rattle.cycles.specs.Rings.{closed}

-- ---- a relation of four cores

-- its truth values, row by row; what it is between a core and itself plays no part
abbrev related : List Bool → ℕ → ℕ → Bool
related l j k = get_or l (4 * j + k) false

abbrev rows : Bool → Bool → Bool → Bool → Bool → Bool → Bool → Bool → Bool → Bool → Bool → Bool → List Bool
rows r01 r02 r03 r10 r12 r13 r20 r21 r23 r30 r31 r32 =
    false ∷ r01 ∷ r02 ∷ r03 ∷ (r10 ∷ false ∷ r12 ∷ r13 ∷ (r20 ∷ r21 ∷ false ∷ r23 ∷ (r30 ∷ r31 ∷ r32 ∷ false ∷ [])))

-- the same in both directions
abbrev same : Bool → Bool → Bool → Bool → Bool → Bool → List Bool
same a b c d e f = rows a b c a d e b d f c e f

-- ---- pairs

-- no two different cores are related
abbrev apart : (ℕ → ℕ → Bool) → Bool
apart r = every (λ j. every (λ k. either (eqb j k) (not (r j k))))

apart-six : (a b c d e f : Bool) → apart (related (same a b c d e f)) ≡ not (either a (either b (either c (either d (either e f)))))
apart-six true b c d e f = refl
apart-six false true c d e f = refl
apart-six false false true d e f = refl
apart-six false false false true e f = refl
apart-six false false false false true f = refl
apart-six false false false false false true = refl
apart-six false false false false false false = refl

module _ (reads : ℕ → ℕ → Bool) where
  abbrev pub pair : ℕ → ℕ → Bool
  pair j k = both (reads j k) (reads k j)

  pub one-way-pairs : either (pair 0 1) (either (pair 0 2) (either (pair 0 3) (either (pair 1 2) (either (pair 1 3) (pair 2 3))))) ≡ not (is_one_way reads)
  one-way-pairs =
      let swap : (j k : ℕ) → pair j k ≡ pair k j = λ j k. both-swap (reads j k) (reads k j) in
      sym (not-not _)
      ∙ ap not (sym (apart-six (pair 0 1) (pair 0 2) (pair 0 3) (pair 1 2) (pair 1 3) (pair 2 3)))
      ∙ (λ z. not (apart (related (rows (pair 0 1) (pair 0 2) (pair 0 3) (swap 0 1 z) (pair 1 2) (pair 1 3) (swap 0 2 z) (swap 1 2 z) (pair 2 3) (swap 0 3 z) (swap 1 3 z) (swap 2 3 z)))))

-- ---- rings, by one computed test

abbrev for_both : (Bool → Bool) → Bool
for_both p = both (p true) (p false)

of-for_both : (p : Bool → Bool) → for_both p ≡ true → (b : Bool) → p b ≡ true
of-for_both p h true = (both_true (p true) (p false) h).0
of-for_both p h false = (both_true (p true) (p false) h).1

abbrev equal : Bool → Bool → Bool
equal true b = b
equal false b = not b

equal_is : (a b : Bool) → equal a b ≡ true → a ≡ b
equal_is true b h = sym h
equal_is false true h = h
equal_is false false h = refl

abbrev right : Bool → Bool → Bool → Bool → Bool → Bool → Bool
right a b c d e f = equal (closed a b c d e f) (not (no_ring (related (same a b c d e f))))

all_right : for_both (λ a. for_both (λ b. for_both (λ c. for_both (λ d. for_both (λ e. for_both (right a b c d e)))))) ≡ true
all_right = refl

closed-six : (a b c d e f : Bool) → closed a b c d e f ≡ not (no_ring (related (same a b c d e f)))
closed-six a b c d e f =
    equal_is (closed a b c d e f) (not (no_ring (related (same a b c d e f))))
    (of-for_both (right a b c d e)
    (of-for_both (λ e. for_both (right a b c d e))
    (of-for_both (λ d. for_both (λ e. for_both (right a b c d e)))
    (of-for_both (λ c. for_both (λ d. for_both (λ e. for_both (right a b c d e))))
    (of-for_both (λ b. for_both (λ c. for_both (λ d. for_both (λ e. for_both (right a b c d e)))))
    (of-for_both (λ a. for_both (λ b. for_both (λ c. for_both (λ d. for_both (λ e. for_both (right a b c d e)))))) all_right a) b) c) d) e) f)

pub rings-closed : (vs : List Variable) → closed (line_between vs 0 1) (line_between vs 0 2) (line_between vs 0 3) (line_between vs 1 2) (line_between vs 1 3) (line_between vs 2 3) ≡ not (no_ring (line_between vs))
rings-closed vs =
    let l : ℕ → ℕ → Bool = line_between vs in
    let swap : (j k : ℕ) → l j k ≡ l k j = λ j k. either-swap (reads_from vs j k) (reads_from vs k j) in
    closed-six (l 0 1) (l 0 2) (l 0 3) (l 1 2) (l 1 3) (l 2 3)
    ∙ (λ z. not (no_ring (related (rows (l 0 1) (l 0 2) (l 0 3) (swap 0 1 z) (l 1 2) (l 1 3) (swap 0 2 z) (swap 1 2 z) (l 2 3) (swap 0 3 z) (swap 1 3 z) (swap 2 3 z)))))
