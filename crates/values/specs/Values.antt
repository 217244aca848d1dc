-- Typed values: "a truth value, a signed or unsigned whole number, a REAL or an LREAL, and carries which".
-- In order: a value from its stored pattern and back; reading one from memory; what a value holds, if it is of that kind.
use Rattle.std.specs.Prelude.{ℕ, ◌*◌, ◌%◌, ◌^◌, Bool, false, not, List, [], ◌∷◌, ℤ, pos, ◌==◌, slice_index_or, Float}
use Rattle.std.specs.Float.Ieee as Ieee
use Rattle.std.specs.Float.{nan, binary32, binary64}
use mir.Val.{bool_byte}
use Rattle.memory.specs.Memory.{read_le}
use Rattle.values.specs.Types.{width_of}
use Rattle.values.specs.Width.{pattern, signed}
use Rattle.values.specs.declared.Value.{Value}
use Rattle.values.specs.declared.Value.TheVariants.{Bool as VBool, Signed, Unsigned, Real, Lreal}

-- ---- a value from its stored pattern and back

-- what the pattern p of type t stands for: any nonzero byte is true, and each pattern of a NaN is NaN
unfoldable pub typed : ℕ → ℕ → Value
typed t p =
    slice_index_or
    (VBool (not (p == 0))  -- 0 BOOL
    ∷ Signed (signed 8 p)  -- 1 SINT
    ∷ Unsigned p  -- 2 BYTE
    ∷ Signed (signed 16 p)  -- 3 INT
    ∷ Unsigned p  -- 4 WORD
    ∷ Signed (signed 32 p)  -- 5 DINT
    ∷ Unsigned p  -- 6 DWORD
    ∷ Signed (signed 64 p)  -- 7 LINT
    ∷ Unsigned p  -- 8 LWORD
    ∷ Real (Ieee.of_bits binary32 p)  -- 9 REAL
    ∷ Lreal (Ieee.of_bits binary64 p)  -- 10 LREAL
    ∷ Signed (signed 32 p)  -- 11 TIME
    ∷ [])
    t (Unsigned p)

-- the pattern of a value in w bytes; a NaN's is 7FC00000 or 7FF8000000000000 hex
unfoldable pub pattern_of : ℕ → Value → ℕ
pattern_of w (VBool x) = bool_byte x
pattern_of w (Signed z) = pattern (8 * w) z
pattern_of w (Unsigned n) = n % 2 ^ (8 * w)
pattern_of w (Real x) = Ieee.to_bits binary32 x
pattern_of w (Lreal x) = Ieee.to_bits binary64 x

-- the pattern that is stored for a value of type t
unfoldable pub stored : ℕ → Value → ℕ
stored t v = pattern_of (width_of t) v

-- ---- reading from memory

-- the value of type t at a place
unfoldable pub read_value : List ℕ → ℕ → ℕ → Value
read_value s t at = typed t (read_le s at (width_of t))

-- ---- what a value holds, if it is of that kind

abbrev pub truth_in : Value → Bool
truth_in (VBool x) = x
truth_in (Signed z) = false
truth_in (Unsigned n) = false
truth_in (Real x) = false
truth_in (Lreal x) = false

abbrev pub signed_in : Value → ℤ
signed_in (VBool x) = pos 0
signed_in (Signed z) = z
signed_in (Unsigned n) = pos 0
signed_in (Real x) = pos 0
signed_in (Lreal x) = pos 0

abbrev pub unsigned_in : Value → ℕ
unsigned_in (VBool x) = 0
unsigned_in (Signed z) = 0
unsigned_in (Unsigned n) = n
unsigned_in (Real x) = 0
unsigned_in (Lreal x) = 0

abbrev pub real_in : Value → Float
real_in (VBool x) = nan
real_in (Signed z) = nan
real_in (Unsigned n) = nan
real_in (Real x) = x
real_in (Lreal x) = nan

abbrev pub lreal_in : Value → Float
lreal_in (VBool x) = nan
lreal_in (Signed z) = nan
lreal_in (Unsigned n) = nan
lreal_in (Real x) = nan
lreal_in (Lreal x) = x
