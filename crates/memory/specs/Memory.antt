-- Lent memory as the list of its bytes: reading and writing a number of any width, copying, and the data buffer of all cores.
-- In order: writing and reading stretches; numbers, low byte first; the cores' data end to end.
-- Every function is total: what lies past the end reads as 0 and is not written, so no bound travels through a definition.
use Rattle.std.specs.Prelude.{ℕ, zero, suc, ◌+◌, ◌*◌, ◌/◌, ◌%◌, ◌≤◌, ◌⊎◌, List, [], ◌∷◌, ◌++◌, set, take, drop, get_or}

-- ---- writing and reading stretches

-- s with ys written over it from place p on
unfoldable pub splice : List ℕ → ℕ → List ℕ → List ℕ
splice s p [] = s
splice s p (y ∷ ys) = splice (set s p y) (suc p) ys

-- the n bytes of s from place p on
unfoldable pub part : List ℕ → ℕ → ℕ → List ℕ
part s p n = take n (drop p s)

-- two stretches of n bytes, at these places, share none
abbrev pub Disjoint : ℕ → ℕ → ℕ → Type 0
Disjoint p q n = (p + n ≤ q) ⊎ (q + n ≤ p)

-- ---- numbers, low byte first

-- the n low bytes of v
unfoldable pub bytes_le : ℕ → ℕ → List ℕ
bytes_le zero v = []
bytes_le (suc n) v = (v % 256) ∷ bytes_le n (v / 256)

-- the number that bytes spell
unfoldable pub value_le : List ℕ → ℕ
value_le [] = 0
value_le (b ∷ bs) = value_le bs * 256 + b

-- the number in the n bytes of s from place p on
unfoldable pub read_le : List ℕ → ℕ → ℕ → ℕ
read_le s p n = value_le (part s p n)

-- the byte at place p
abbrev pub byte : List ℕ → ℕ → ℕ
byte s p = get_or s p 0

-- the 16-bit number at place p
abbrev pub word : List ℕ → ℕ → ℕ
word s p = read_le s p 2

-- ---- the cores' data: end to end in one buffer, and as a list of lists

-- where the data of core k begin: the sizes before k, added up
unfoldable pub start : List ℕ → ℕ → ℕ
start ns zero = 0
start [] (suc k) = 0
start (n ∷ ns) (suc k) = n + start ns k

-- the sizes added up
unfoldable pub total : List ℕ → ℕ
total [] = 0
total (n ∷ ns) = n + total ns

-- the buffer cut into stretches of these sizes
unfoldable pub split : List ℕ → List ℕ → List (List ℕ)
split [] s = []
split (n ∷ ns) s = take n s ∷ split ns (drop n s)

-- the stretches end to end
unfoldable pub flat : List (List ℕ) → List ℕ
flat [] = []
flat (x ∷ xs) = x ++ flat xs
