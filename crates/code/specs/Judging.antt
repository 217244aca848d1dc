-- What the inner functions that judge a code promise: lengths, the map of starts, the pass. A reader of the machine needs only `Code`.
use Rattle.std.specs.Prelude.{ℕ, ◌≤◌, ◌<◌, ◌≡◌, ◌⊎◌, List, Bool, true, false, length, get_or, eqb}
use Rattle.memory.specs.Memory.{byte}
use Rattle.code.specs.Commands.{length_of}
use Rattle.code.specs.Instructions.{instruction_at, instruction_length}
use Rattle.code.specs.Flow.{kind_at, goes_to, target_at}
use Rattle.code.specs.declared.Profile.{Profile}
use Rattle.code.specs.Code.{operands_ok, laid, is_start, all_from, target_ok, last_from}

-- if the operands at p lie on their lists, the instruction has n bytes, all of them by its code byte
pub record LengthKnown (c : List ℕ) (p n : ℕ) : Type 0 where
  pub own : operands_ok (instruction_at c p) ≡ true → length_of (byte c p) ≡ n
  pub all : operands_ok (instruction_at c p) ≡ true → instruction_length c p ≡ n

-- what a map of starts says: 1 exactly where an instruction starts
abbrev pub Marked : List ℕ → List ℕ → Type 0
Marked c marks = (t : ℕ) → eqb (byte marks t) 1 ≡ is_start c t

-- a map with no mark
abbrev pub Cleared : List ℕ → Type 0
Cleared marks = (t : ℕ) → get_or marks t 0 ≡ 0

-- what asking for a start at place t does to a map: a place that is no start may become one that is asked for
pub record Asked (m : List ℕ) (t : ℕ) (outside : Bool) (n : List ℕ) : Type 0 where
  pub size : length n ≡ length m
  pub starts : (u : ℕ) → eqb (get_or n u 0) 1 ≡ eqb (get_or m u 0) 1
  pub kept : (u : ℕ) → 2 ≤ get_or m u 0 → 2 ≤ get_or n u 0
  pub new : (u : ℕ) → 2 ≤ get_or n u 0 → (2 ≤ get_or m u 0) ⊎ (u ≡ t)
  pub there : outside ≡ false → 0 < get_or n t 0
  pub beyond : outside ≡ true → length m ≤ t

-- the same for the T of the instruction at p, if it has one
pub record TargetAsked (c : List ℕ) (p : ℕ) (m : List ℕ) (outside : Bool) (n : List ℕ) : Type 0 where
  pub asked : goes_to (kind_at c p) ≡ true → Asked m (target_at c p) outside n
  pub none : goes_to (kind_at c p) ≡ false → (outside ≡ false) × (n ≡ m)

-- what a pass over the instructions finds: their refusal, and if there is none the map of starts, the last code byte, and the targets:
-- all are right where none lies outside the map, of n bytes, and none is still asked for, and only there
pub record Pass (profile : Profile) (c : List ℕ) (n refusal last : ℕ) (outside : Bool) (marks : List ℕ) : Type 0 where
  pub right : refusal ≡ laid profile (length c) c 0
  pub size : length marks ≡ n
  pub marked : refusal ≡ 0 → Marked c marks
  pub latest : refusal ≡ 0 → last ≡ last_from (length c) c 0 0
  pub met : refusal ≡ 0 → outside ≡ false → ((t : ℕ) → get_or marks t 0 < 2) → all_from (target_ok c) (length c) c 0 ≡ true
  pub inside : refusal ≡ 0 → all_from (target_ok c) (length c) c 0 ≡ true → outside ≡ false
  pub closed : refusal ≡ 0 → all_from (target_ok c) (length c) c 0 ≡ true → (t : ℕ) → get_or marks t 0 < 2

-- whether no place of a map is asked for
pub record AllMet (marks : List ℕ) (met : Bool) : Type 0 where
  pub low : met ≡ true → (t : ℕ) → get_or marks t 0 < 2
  pub high : ((t : ℕ) → get_or marks t 0 < 2) → met ≡ true
