-- Where an exchange under way stands. Bit k of a variable's attribute byte names core k as its writer, bit 4 + k as a reader.
use Rattle.std.specs.Prelude.{◌≡◌, Bool, true, List, ℕ, ◌+◌, ◌/◌, ◌%◌, ◌^◌, ◌≤◌, ◌<◌, eqb, drop}
use Rattle.memory.specs.Memory.{byte}
use Rattle.protocol.specs.Variables.{Variable, moves_of}
use Rattle.records.specs.File.{variables, record_place, variable_in}
use Rattle.taskset.specs.Task.{variables_of}
use Rattle.exchange.specs.declared.Cursor.{Cursor}

-- bit `bit` of the attribute byte is set
unfoldable pub has_bit : ℕ → Variable → Bool
has_bit bit v = eqb (v.attribute / 2 ^ bit % 2) 1

-- After x bytes of the exchange of this bit, the cursor is at variable `index`, which takes part in it, within its width; or past the last
pub record At (f : List ℕ) (bit x : ℕ) (c : Cursor) : Type 0 where
  pub index : ℕ
  pub place : c.record ≡ record_place f index
  pub inside : index ≤ variables f
  pub rest : (from to : Variable → ℕ) → drop x (moves_of (has_bit bit) from to (variables_of f)) ≡ drop c.byte (moves_of (has_bit bit) from to (drop index (variables_of f)))
  pub chosen : index < variables f → (has_bit bit (variable_in f (record_place f index)) ≡ true) × (c.byte < byte f (record_place f index + 2))
