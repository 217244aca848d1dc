-- Document 02, 2.8, "Packed decimal for panel switches": four bits to a digit, the last digit in the lowest four. In order: digits from one base to another; at a
-- width of w bytes, which has room for 2 * w digits; by type number, on stored patterns.
use Rattle.std.specs.Prelude.{ℕ, zero, suc, ◌+◌, ◌*◌, ◌/◌, ◌%◌, ◌^◌, Bool, true, ◌&&◌, ltb, Option, Some, None}
use Rattle.verdict.specs.Verdict.{pick}
use Rattle.values.specs.Types.{width_of}
use Rattle.values.specs.Values.{stored}
use Rattle.values.specs.declared.Value.TheVariants.{Unsigned}
use Rattle.values.specs.declared.Value.{Value}
use Rattle.conversions.specs.Conversions.{Result, result_as}

-- ---- digits from one base to another

-- the lowest d digits of n in base a, read in base b
unfoldable pub recoded : ℕ → ℕ → ℕ → ℕ → ℕ
recoded a b zero n = 0
recoded a b (suc d) n = n % a + b * recoded a b d (n / a)

-- whether the lowest d digits of n in base a are below b
unfoldable pub digits_below : ℕ → ℕ → ℕ → ℕ → Bool
digits_below a b zero n = true
digits_below a b (suc d) n = ltb (n % a) b && digits_below a b d (n / a)

-- whole to packed, and packed to whole, d digits
abbrev pub packed_digits : ℕ → ℕ → ℕ
packed_digits d n = recoded 10 16 d n

abbrev pub unpacked_digits : ℕ → ℕ → ℕ
unpacked_digits d p = recoded 16 10 d p

-- ---- at a width: a value with too many digits, and a digit above 9, are not held

unfoldable pub packed_at : ℕ → ℕ → Option Value
unfolding recoded
packed_at w n = pick (ltb n (10 ^ (2 * w))) (Some (Unsigned (packed_digits (2 * w) n))) None

unfoldable pub unpacked_at : ℕ → ℕ → Option Value
unfolding recoded digits_below
unpacked_at w p = pick (digits_below 16 10 (2 * w) p) (Some (Unsigned (unpacked_digits (2 * w) p))) None

-- ---- by type number: 2 BYTE, 4 WORD, 6 DWORD, 8 LWORD, whose patterns are the numbers

-- code 44, whole to packed
unfoldable pub packed : ℕ → ℕ → Result
unfolding packed_at width_of stored
packed t n = result_as t (packed_at (width_of t) n)

-- code 45, packed to whole
unfoldable pub unpacked : ℕ → ℕ → Result
unfolding unpacked_at width_of stored
unpacked t p = result_as t (unpacked_at (width_of t) p)
