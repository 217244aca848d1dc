-- Document 02, 2.3, "Conversions between number types", in its order: whole to whole, float to whole, whole to float and LREAL to REAL; by type
-- number; then on stored patterns. w is a width in bytes, and b says whether a whole destination is signed.
-- Not here: what "nearest" says over whole numbers (`Rounding`); addresses, and what the data are afterwards (`Data`).
use Rattle.std.specs.Prelude.{ℕ, ◌-◌, ◌*◌, ◌^◌, Bool, true, false, [], ◌∷◌, ℤ, pos, negsuc, neg_ℤ, nat_lt, slice_index_or, Option, Some, None, Float}
use Rattle.std.specs.Int.Signed.{mag}
use Rattle.std.specs.Float.Ieee as Ieee
use Rattle.std.specs.Float.{nan, inf, fin, binary32, binary64}
use Rattle.std.specs.Float.Ieee.{up, down}
use Rattle.std.specs.Float.Ieee.Nearest.{closest}
use Rattle.verdict.specs.Verdict.{pick}
use Rattle.values.specs.Values.{typed, stored}
use Rattle.values.specs.declared.Value.{Value}
use Rattle.values.specs.declared.Value.TheVariants.{Bool as VBool, Signed, Unsigned, Real, Lreal}

-- ---- whole to whole: the value is kept, where the destination can hold it

unfoldable pub held_in : Bool → ℕ → ℤ → Option Value
held_in true w z = pick (nat_lt (mag z) (2 ^ (8 * w - 1))) (Some (Signed z)) None
held_in false w (pos n) = pick (nat_lt n (2 ^ (8 * w))) (Some (Unsigned n)) None
held_in false w (negsuc n) = None

-- ---- float to whole: rounded to nearest, ties to even, and then held or not; NaN and infinities are not

-- the whole number of a sign and a magnitude: that of -0 is 0
abbrev pub with_sign : Bool → ℕ → ℤ
with_sign true n = neg_ℤ (pos n)
with_sign false n = pos n

-- the float fin s m e is m * 2 ^ e, the fraction m * up e / down e, with the sign s
unfoldable pub nearest_whole : Bool → ℕ → Float → Option Value
unfolding held_in
nearest_whole b w nan = None
nearest_whole b w (inf s) = None
nearest_whole b w (fin s m e) = held_in b w (with_sign s (closest (m * up e) (down e)))

unfoldable pub to_whole : Bool → ℕ → Value → Option Value
unfolding held_in nearest_whole
to_whole b w (VBool x) = None
to_whole b w (Signed z) = held_in b w z
to_whole b w (Unsigned n) = held_in b w (pos n)
to_whole b w (Real x) = nearest_whole b w x
to_whole b w (Lreal x) = nearest_whole b w x

-- ---- whole to float and LREAL to REAL: rounded the same way once; too large becomes infinity

unfoldable pub narrow : Float → Float
narrow nan = nan
narrow (inf s) = inf s
narrow (fin s m e) = Ieee.round binary32 s (m * up e) (down e)

unfoldable pub to_real : Value → Float
unfolding narrow Ieee.of_int
to_real (VBool x) = nan
to_real (Signed z) = Ieee.of_int binary32 z
to_real (Unsigned n) = Ieee.of_int binary32 (pos n)
to_real (Real x) = x
to_real (Lreal x) = narrow x

unfoldable pub to_lreal : Value → Float
unfolding Ieee.of_int
to_lreal (VBool x) = nan
to_lreal (Signed z) = Ieee.of_int binary64 z
to_lreal (Unsigned n) = Ieee.of_int binary64 (pos n)
to_lreal (Real x) = x
to_lreal (Lreal x) = x

-- ---- by type number

-- a value as one of type t; BOOL and TIME are not among the types 1 to 10
unfoldable pub to_type : ℕ → Value → Option Value
unfolding to_whole to_real to_lreal
to_type t v =
    slice_index_or
    (None  -- 0 BOOL
    ∷ to_whole true 1 v  -- 1 SINT
    ∷ to_whole false 1 v  -- 2 BYTE
    ∷ to_whole true 2 v  -- 3 INT
    ∷ to_whole false 2 v  -- 4 WORD
    ∷ to_whole true 4 v  -- 5 DINT
    ∷ to_whole false 4 v  -- 6 DWORD
    ∷ to_whole true 8 v  -- 7 LINT
    ∷ to_whole false 8 v  -- 8 LWORD
    ∷ Some (Real (to_real v))  -- 9 REAL
    ∷ Some (Lreal (to_lreal v))  -- 10 LREAL
    ∷ [])
    t None

-- ---- on stored patterns

-- the pattern that is stored, or that the destination can't hold the result
pub data Result : Type 0 where
  stores : ℕ → Result
  not-held : Result

-- the result at a destination of type t; NaN has document 01's stored form by `stored`
abbrev pub result_as : ℕ → Option Value → Result
result_as t (Some v) = stores (stored t v)
result_as t None = not-held

-- the operand with this pattern of the type `from`, converted to the type `to`
unfoldable pub converted : ℕ → ℕ → ℕ → Result
unfolding to_type typed stored
converted from to p = result_as to (to_type to (typed from p))
