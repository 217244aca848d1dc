-- What a run is given where it begins in the midst of an exchange, for the inner functions of this crate.
-- Not here: what a run and a step are (machine/specs/Calls).
use Rattle.std.specs.Prelude.{◌≡◌, List, ℕ, suc, ◌<◌, get_or}
use Rattle.records.specs.File.{cores, variables, record_place}
use Rattle.exchange.specs.declared.Cursor.{Cursor}
use Rattle.states.specs.declared.Held.{Held}
use Rattle.states.specs.Machine.{no_registers, state_of}
use Rattle.states.specs.Set.{AcceptedSet}
use Rattle.states.specs.Fit.{Fit}
use Rattle.steps.specs.Moving.{CursorAimed}

-- a fit state of an accepted set, with the places of the variables' records
pub record AimGiven (f t : List ℕ) (first end : ℕ) (h : Held) (d sh : List ℕ) : Type 0 where
  pub accepted : AcceptedSet f t
  pub from : first ≡ record_place f 0
  pub upto : end ≡ record_place f (variables f)
  pub fit : Fit f t (state_of f h d sh)

-- the holder's cursor, of whichever core holds the semaphore
abbrev pub AimedAt : List ℕ → Held → Cursor → Type 0
AimedAt f h aim = (k : ℕ) → k < cores f → h.semaphore.holder ≡ suc k → CursorAimed f k (get_or h.cores k no_registers) aim
