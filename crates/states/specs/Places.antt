-- What the test of a core's places needs of its code. For inner functions alone.
use Rattle.std.specs.Prelude.{ℕ, ◌≤◌, ◌≡◌, true, List, length}
use Rattle.code.specs.Code.{judge_code, is_start}
use Rattle.code.specs.Judging.{Marked}

-- code that was judged and accepted
pub record AcceptedCode (c : List ℕ) : Type 0 where
  pub short : length c ≤ 8192
  pub accepted : judge_code c ≡ 0
  pub start : is_start c 0 ≡ true

-- a map of the code's instruction starts, or an empty one
abbrev pub MapOrNone : List ℕ → List ℕ → Type 0
MapOrNone c marks = (length marks ≡ 0 → ⊥) → Marked c marks
