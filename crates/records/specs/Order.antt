-- What the one pass over the variables of a memory says where it finds them in order: no two of them meet there. For inner functions alone.
use Rattle.std.specs.Prelude.{ℕ, ◌+◌, ◌≤◌, ◌<◌, ◌≡◌, List, Bool, true}
use Rattle.protocol.specs.Variables.{local}
use Rattle.records.specs.File.{variable_at}
use Rattle.records.specs.Records.{used_by}

-- of m stretches each that counts begins at or behind the end of all before it
abbrev pub Rising : (ℕ → Bool) → (ℕ → ℕ) → (ℕ → ℕ) → ℕ → Type 0
Rising counts place width m = (i j : ℕ) → i < j → j < m → counts i ≡ true → counts j ≡ true → place i + width i ≤ place j

-- the first m variables in shared memory
abbrev pub RisingShared : List ℕ → ℕ → Type 0
RisingShared f m = Rising (λ i. true) (λ i. (variable_at f i).place) (λ i. (variable_at f i).width) m

-- in the data of core k, those that name it
abbrev pub RisingIn : List ℕ → ℕ → ℕ → Type 0
RisingIn f k m = Rising (λ i. used_by k (variable_at f i)) (λ i. local k (variable_at f i)) (λ i. (variable_at f i).width) m

-- in every memory
pub record RisingAll (f : List ℕ) (m : ℕ) : Type 0 where
  pub shared : RisingShared f m
  pub each : (k : ℕ) → k < 4 → RisingIn f k m
