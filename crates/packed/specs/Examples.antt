-- The examples of document 02, 2.8, and others at the edges, on stored patterns: one table, one theorem for all rows.
use Rattle.std.specs.Prelude.{ℕ, List, [], ◌∷◌, map, ◌≡◌, refl, eqb}
use Rattle.verdict.specs.Verdict.{pick}
use Rattle.values.specs.Types.{width_of}
use Rattle.values.specs.Values.{pattern_of}
use Rattle.conversions.specs.Conversions.{Result, stores, not-held}
use Rattle.packed.specs.Packed.{packed, unpacked}

-- code byte, type, the source's pattern, and the result
pub record PackedExample : Type 0 where
  pub code : ℕ
  pub type : ℕ
  pub source : ℕ
  pub result : Result

abbrev example : ℕ → ℕ → ℕ → Result → PackedExample
example c t p a = record { code = c; type = t; source = p; result = a }

unfoldable pub packed_given : PackedExample → Result
unfolding packed unpacked
packed_given x = pick (eqb x.code 44) (packed x.type x.source) (unpacked x.type x.source)

unfoldable pub packed_said : PackedExample → Result
packed_said x = x.result

unfoldable pub packed_examples : List PackedExample
packed_examples =
    example 44 2 98 (stores 152)
    ∷ example 45 2 152 (stores 98)
    ∷ example 44 2 100 not-held
    ∷ example 45 2 154 not-held
    ∷ example 44 8 9999999999999999 (stores 0x9999_9999_9999_9999)
    ∷ example 44 8 10000000000000000 not-held
    ∷ []

pub packed-examples-hold : map packed_given packed_examples ≡ map packed_said packed_examples
unfolding packed_given packed_said packed_examples pick pattern_of width_of
packed-examples-hold = refl
