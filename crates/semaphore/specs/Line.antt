-- The semaphore that a caller holds and lends, as that of crate protocol, and back; the one that a run keeps.
use Rattle.std.specs.Prelude.{◌≡◌, Bool, not, List, [], ◌∷◌, ℕ, get_or, length, take}
use Rattle.verdict.specs.Verdict.{both}
use Rattle.protocol.specs.State.{Semaphore}
use Rattle.protocol.specs.Step.{in_line, turn}
use Rattle.semaphore.specs.declared.Semaphore.{Semaphore as HeldSemaphore}
use Rattle.semaphore.specs.declared.Line.{Line}

-- ---- a caller's

-- the line is the first `waiting` entries
abbrev pub semaphore_of : HeldSemaphore → Semaphore
semaphore_of m = record { holder = m.holder; line = take m.waiting m.line }

-- back: entries past the line are 0
abbrev pub semaphore_back : Semaphore → HeldSemaphore
semaphore_back m = record { holder = m.holder; waiting = length m.line; line = get_or m.line 0 0 ∷ get_or m.line 1 0 ∷ get_or m.line 2 0 ∷ get_or m.line 3 0 ∷ [] }

-- ---- a run's

-- core k stands in line, and it is not its turn
abbrev pub waits_at : Semaphore → ℕ → Bool
waits_at m k = both (in_line k m.line) (not (turn m k))

-- who stands in line
abbrev pub standing_in : List ℕ → List Bool
standing_in xs = in_line 0 xs ∷ in_line 1 xs ∷ in_line 2 xs ∷ in_line 3 xs ∷ []

unfoldable pub line_of : Semaphore → Line
line_of m = record { semaphore = semaphore_back m; standing = standing_in m.line }

-- what a run keeps says the same in both its parts, and has zeros past the line
abbrev pub Lined : Line → Type 0
Lined x = x ≡ line_of (semaphore_of x.semaphore)
