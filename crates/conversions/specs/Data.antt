-- How a conversion ends on a core's data, and the data after it: "Bit 6 is tried last", so the addresses come first, then whether the destination
-- can hold the result. In order: an end with the data afterwards; the store; the tests; code 43.
use Rattle.std.specs.Prelude.{ℕ, List, length, Result as Answer, Ok, Err}
use Rattle.verdict.specs.Verdict.{pick}
use Rattle.verdict.specs.declared.Fault.{Fault}
use Rattle.verdict.specs.declared.Fault.TheVariants.{Address, Conversion}
use Rattle.memory.specs.Memory.{splice, bytes_le, read_le}
use Rattle.values.specs.Types.{width_of}
use Rattle.values.specs.Commands.{any_beyond}
use Rattle.conversions.specs.Conversions.{Result, stores, not-held, converted}

-- ---- an end with the data afterwards

pub record Ended : Type 0 where
  pub conversion : Answer (Unit {0}) Fault  -- done, or the fault that it is
  pub memory : List ℕ

abbrev pub ended : Answer (Unit {0}) Fault → List ℕ → Ended
ended r m = record { conversion = r; memory = m }

-- ---- the store: a result of type t at a place of the data s; one that is not held changes nothing

abbrev pub settled : ℕ → List ℕ → ℕ → Result → Ended
settled t s to (stores p) = ended (Ok tt) (splice s to (bytes_le (width_of t) p))
settled t s to not-held = ended (Err Conversion) s

-- ---- the tests

-- the result a of a type t goes to a place, unless it or the source, of type u, is beyond the data
unfoldable pub tried : ℕ → ℕ → List ℕ → ℕ → ℕ → Result → Ended
tried t u s to source a = pick (any_beyond (length s) to (width_of t) source (width_of u)) (ended (Err Address) s) (settled t s to a)

-- ---- code 43

unfoldable pub converting : ℕ → ℕ → List ℕ → ℕ → ℕ → Ended
unfolding tried converted
converting from to s destination source = tried to from s destination source (converted from to (read_le s source (width_of from)))
