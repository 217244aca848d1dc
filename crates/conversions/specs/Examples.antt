-- The examples of document 02, 2.3, and others at the edges, on stored patterns: one table, one theorem for all rows.
use Rattle.std.specs.Prelude.{◌≡◌, ℕ, ◌+◌, ◌^◌, List, [], ◌∷◌, map, refl}
use Rattle.std.specs.Float.Ieee as Ieee
use Rattle.verdict.specs.Verdict.{pick}
use Rattle.values.specs.Types.{width_of}
use Rattle.values.specs.Values.{pattern_of}
use Rattle.values.specs.Width.{signed, pattern}
use Rattle.conversions.specs.Conversions.{Result, stores, not-held, converted}

-- from-type, to-type, the source's pattern, and the result
pub record Example : Type 0 where
  pub from : ℕ
  pub to : ℕ
  pub source : ℕ
  pub result : Result

abbrev turns : ℕ → ℕ → ℕ → Result → Example
turns f t p a = record { from = f; to = t; source = p; result = a }

unfoldable pub given : Example → Result
unfolding converted
given x = converted x.from x.to x.source

unfoldable pub said : Example → Result
said x = x.result

unfoldable pub examples : List Example
examples =
    turns 9 3 0x4020_0000 (stores 2)  -- 2.5
    ∷ turns 9 3 0x4060_0000 (stores 4)  -- 3.5
    ∷ turns 9 3 0xbf00_0000 (stores 0)  -- -0.5
    ∷ turns 10 4 0xbfe0_0000_0000_0000 (stores 0)  -- -0.5, LREAL to WORD
    ∷ turns 9 5 0x8000_0000 (stores 0)  -- -0
    ∷ turns 9 2 0xbf00_0000 (stores 0)  -- -0.5 to BYTE
    ∷ turns 9 2 0xbf19_999a not-held  -- -0.6 to BYTE
    ∷ turns 9 1 0x42ff_0000 not-held  -- 127.5 to SINT
    ∷ turns 9 1 0x42fe_cccd (stores 127)  -- 127.4
    ∷ turns 9 1 0xc300_8000 (stores 128)  -- -128.5 to SINT gives -128
    ∷ turns 5 9 16777217 (stores 0x4b80_0000)  -- 16777216
    ∷ turns 7 9 (2 ^ 60 + 2 ^ 36 + 1) (stores 0x5d80_0001)  -- through LREAL it would be 5D800000
    ∷ turns 10 9 0x47ef_ffff_e000_0000 (stores 0x7f7f_ffff)  -- the largest REAL
    ∷ turns 10 9 0x47ef_ffff_efff_ffff (stores 0x7f7f_ffff)  -- just below the halfway point above it
    ∷ turns 10 9 0x47ef_ffff_f000_0000 (stores 0x7f80_0000)  -- the halfway point
    ∷ turns 10 9 0xb6a0_0000_0000_0000 (stores 0x8000_0001)  -- -2^-149
    ∷ turns 10 9 0xb690_0000_0000_0000 (stores 0x8000_0000)  -- -2^-150 gives -0
    ∷ turns 10 9 0xfff0_0000_0000_0001 (stores 0x7fc0_0000)  -- a NaN
    ∷ turns 10 10 0xfff0_0000_0000_0001 (stores 0x7ff8_0000_0000_0000)  -- a NaN, between equal types
    ∷ turns 9 9 0xffff_ffff (stores 0x7fc0_0000)
    ∷ turns 9 10 0xff80_0000 (stores 0xfff0_0000_0000_0000)  -- -infinity
    ∷ turns 9 5 0x7fc0_0000 not-held
    ∷ turns 10 7 0x7ff0_0000_0000_0000 not-held
    ∷ turns 10 8 0x43f0_0000_0000_0000 not-held  -- 2^64
    ∷ turns 8 10 0xffff_ffff_ffff_ffff (stores 0x43f0_0000_0000_0000)
    ∷ turns 1 2 255 not-held  -- -1 to BYTE
    ∷ turns 3 2 255 (stores 255)
    ∷ turns 1 7 128 (stores 0xffff_ffff_ffff_ff80)  -- -128 to LINT
    ∷ []

pub examples-hold : map given examples ≡ map said examples
unfolding given said examples pick Ieee.of_bits Ieee.to_bits pattern_of signed pattern width_of
examples-hold = refl
