-- Document 02, 2.10: what a profile of the machine carries. "Our smallest controller carries no 64-bit numbers and no floats." "Small means a data size of
-- at most 1,024 (else 3) and no instruction naming types 7 to 10." The full profile is document 01's. In order: data; types. Not here: where 3 and 27 are
-- judged (crate `records`; `Code`).
use Rattle.std.specs.Prelude.{ℕ, ◌+◌, Bool, true, false, not, List, [], ◌∷◌, map}
use Rattle.memory.specs.Memory.{byte}
use Rattle.verdict.specs.Verdict.{both, within}
use Rattle.code.specs.Commands.{Operand, Address, CodePlace, Number, TypeByte, SizeByte, row_of, row_operands, places_of}
use Rattle.code.specs.declared.Profile.{Profile}
use Rattle.code.specs.declared.Profile.TheVariants.{Full, Small}

-- ---- data

-- the greatest data size of a core
abbrev pub most_data : Profile → ℕ
most_data Full = 4096
most_data Small = 1024

-- ---- types

-- LINT, LWORD, REAL and LREAL
abbrev pub wide : ℕ → Bool
wide type = within 7 10 type

abbrev pub is_type : Operand → Bool
is_type Address = false
is_type CodePlace = false
is_type Number = false
is_type TypeByte = true
is_type SizeByte = false

-- the types that the instruction at p names: its type bytes
unfoldable pub types_at : List ℕ → ℕ → List ℕ
types_at c p = map (λ n. byte c (p + n)) (places_of is_type 1 (row_operands (row_of (byte c p))))

abbrev pub none_wide : List ℕ → Bool
none_wide [] = true
none_wide (type ∷ types) = both (not (wide type)) (none_wide types)

-- a profile carries an instruction that names these types
abbrev pub carries : Profile → List ℕ → Bool
carries Full types = true
carries Small types = none_wide types
