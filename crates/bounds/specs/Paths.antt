-- Document 02, 2.7: the paths of one cycle of a core, "over every choice at its conditional jumps, faults and the depth limit left aside", and what the
-- greatest numbers over them are. In order: one instruction; a path; the greatest numbers; choices. `greatest` of proofs/Greatest proves `Greatest` of the
-- numbers of specs/Bounds wherever all jumps and calls lead to higher places. Not here: how the numbers are found, and the refusals (specs/Bounds).
use Rattle.std.specs.Prelude.{◌≡◌, Bool, true, false, List, [], ◌∷◌, ℕ, suc, ◌≤◌, max, length}
use Rattle.code.specs.Commands.{Returns, Jumps, Branches, Calls, Passes}
use Rattle.code.specs.Flow.{kind_at, after, target_at}

-- ---- one instruction

-- One instruction of the code c: from place p with the return places s, the latest first, to place q with the return places r. The depth is the
-- length of s. At a conditional jump both ways are open, each time that it is met.
pub data Goes (c : List ℕ) (p : ℕ) : List ℕ → ℕ → List ℕ → Type 0 where
  passes : {s : List ℕ} → kind_at c p ≡ Passes → Goes c p s (after c p) s
  jumps : {s : List ℕ} → kind_at c p ≡ Jumps → Goes c p s (target_at c p) s
  stays : {s : List ℕ} → kind_at c p ≡ Branches → Goes c p s (after c p) s
  leaves : {s : List ℕ} → kind_at c p ≡ Branches → Goes c p s (target_at c p) s
  calls : {s : List ℕ} → kind_at c p ≡ Calls → Goes c p s (target_at c p) (after c p ∷ s)
  returns : {q : ℕ} {s : List ℕ} → kind_at c p ≡ Returns → Goes c p (q ∷ s) q s

-- ---- a path

-- A path from a place to RETURN at depth 0: n instructions, that RETURN included, and d the greatest depth on it
pub data Path (c : List ℕ) : ℕ → List ℕ → ℕ → ℕ → Type 0 where
  ends : {p : ℕ} → kind_at c p ≡ Returns → Path c p [] 1 0
  more : {p q n d : ℕ} {s r : List ℕ} → Goes c p s q r → Path c q r n d → Path c p s (suc n) (max (length s) d)

-- a cycle: from place 0 at depth 0
abbrev pub Cycle : List ℕ → ℕ → ℕ → Type 0
Cycle c n d = Path c 0 [] n d

-- ---- the greatest numbers

-- "the greatest instruction count and call depth .. over every choice at its conditional jumps": no cycle has more, and each of the two numbers is
-- attained by some cycle
pub record Greatest (c : List ℕ) (count depth : ℕ) : Type 0 where
  pub count-bounds : (n d : ℕ) → Cycle c n d → n ≤ count
  pub count-attained : (d : ℕ) × Cycle c count d
  pub depth-bounds : (n d : ℕ) → Cycle c n d → d ≤ depth
  pub depth-attained : (n : ℕ) × Cycle c n depth

-- ---- choices, as a check of the above: `every-choice`, `one-cycle` and `some-choice` of proofs/Choices say that over every choice is over every cycle.
-- `w i` says whether the i-th instruction of what is left of a cycle (the first is 0) jumps, if it is a conditional jump.
abbrev pub later : (ℕ → Bool) → ℕ → Bool
later w i = w (suc i)

-- a path goes as the choices say
abbrev pub Chosen : {c : List ℕ} {p n d : ℕ} {s : List ℕ} → (ℕ → Bool) → Path c p s n d → Type 0
Chosen w (ends e) = Unit {0}
Chosen w (more (passes e) x) = Chosen (later w) x
Chosen w (more (jumps e) x) = Chosen (later w) x
Chosen w (more (stays e) x) = (w 0 ≡ false) × Chosen (later w) x
Chosen w (more (leaves e) x) = (w 0 ≡ true) × Chosen (later w) x
Chosen w (more (calls e) x) = Chosen (later w) x
Chosen w (more (returns e) x) = Chosen (later w) x
