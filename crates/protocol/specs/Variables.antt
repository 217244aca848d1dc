-- Document 01, "The task set file": the variables as the bytes of the exchanges, what the loader accepts of them, and a variable's value.
use Rattle.std.specs.Prelude.{◌≡◌, ◌⊎◌, Bool, List, [], ◌∷◌, ◌++◌, ℕ, zero, suc, ◌+◌, ◌/◌, ◌%◌, ◌^◌, ◌≤◌, T, eqb, ltb, length, get_or}
use Rattle.std.proofs.Math.Option.{Option, none, some}
use Rattle.verdict.specs.Verdict.{pick, both}
use Rattle.protocol.specs.State.{State, Move, core}

-- one variable record of the file
pub record Variable : Type 0 where
  pub place : ℕ
  pub width : ℕ
  pub attribute : ℕ
  pub locals : List ℕ

-- its place in the data of core k
abbrev pub local : ℕ → Variable → ℕ
local k v = get_or v.locals k 0

-- bit k of the attribute byte (k below 4) is WRITE by core k, bit 4 + k is READ by it
unfoldable pub writes_it : ℕ → Variable → Bool
writes_it k v = both (ltb k 4) (eqb (v.attribute / 2 ^ k % 2) 1)

unfoldable pub reads_it : ℕ → Variable → Bool
reads_it k v = both (ltb k 4) (eqb (v.attribute / 2 ^ (4 + k) % 2) 1)

-- ---- the bytes of an exchange

-- n bytes, from place a on to place b on
abbrev pub span : ℕ → ℕ → ℕ → List Move
span zero a b = []
span (suc n) a b = record { source = a; target = b } ∷ span n (suc a) (suc b)

-- the bytes of the named variables, in file order
abbrev pub moves_of : (Variable → Bool) → (Variable → ℕ) → (Variable → ℕ) → List Variable → List Move
moves_of named from to [] = []
moves_of named from to (v ∷ vs) = pick (named v) (span v.width (from v) (to v)) [] ++ moves_of named from to vs

-- shared to local
abbrev pub reads_of : List Variable → ℕ → List Move
reads_of vs k = moves_of (reads_it k) (λ v. v.place) (local k) vs

-- local to shared
abbrev pub writes_of : List Variable → ℕ → List Move
writes_of vs k = moves_of (writes_it k) (local k) (λ v. v.place) vs

-- ---- what the loader accepts

abbrev pub In : {A : Type 0} → A → List A → Type 0
In m [] = ⊥
In m (x ∷ xs) = (m ≡ x) ⊎ In m xs

-- any two of them satisfy R
abbrev pub Pairwise : (Variable → Variable → Type 0) → List Variable → Type 0
Pairwise R [] = Unit {0}
Pairwise R (v ∷ vs) = ((u : Variable) → In u vs → R v u) × Pairwise R vs

-- n bytes from a on and n' bytes from b on share none
abbrev pub Clear : ℕ → ℕ → ℕ → ℕ → Type 0
Clear a n b n' = (a + n ≤ b) ⊎ (b + n' ≤ a)

-- one writer each; places lie inside; no two share a byte in shared memory, nor in data into which both are read
pub record Accepted (vs : List Variable) (s : State) : Type 0 where
  pub one_writer : (v : Variable) → In v vs → (j k : ℕ) → T (writes_it j v) → T (writes_it k v) → j ≡ k
  pub fits-shared : (v : Variable) → In v vs → v.place + v.width ≤ length s.plant.shared
  pub fits-local : (v : Variable) → In v vs → (k : ℕ) → T (reads_it k v) → local k v + v.width ≤ length (core s.plant k).memory
  pub clear-shared : Pairwise (λ v u. Clear v.place v.width u.place u.width) vs
  pub clear-local : (k : ℕ) → Pairwise (λ v u. T (reads_it k v) → T (reads_it k u) → Clear (local k v) v.width (local k u) u.width) vs

-- ---- a variable's value

-- the n bytes from place i on
abbrev pub value : List ℕ → ℕ → ℕ → List ℕ
value l i zero = []
value l i (suc n) = get_or l i 0 ∷ value l (suc i) n

-- v's value as its writer w published it: from w's data d, or the start value
abbrev pub value_of : Option (List ℕ) → List ℕ → ℕ → Variable → List ℕ
value_of none start w v = value start v.place v.width
value_of (some d) start w v = value d (local w v) v.width
