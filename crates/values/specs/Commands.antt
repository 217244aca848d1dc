-- The typed commands of document 01 in its order, on values; then by code byte, on stored patterns, and on memory.
-- In order: a command by what it does to each kind; arithmetic; logic; shifts; comparisons; the table by code byte; zero divisors;
-- operands beyond the data; a command on memory. w is the width in bytes; a kind that a command does not take is left as it is.
use Rattle.std.specs.Prelude.{ℕ, ◌+◌, ◌*◌, ◌/◌, ◌%◌, ◌^◌, Bool, false, not, ◌&&◌, ◌||◌, eqb, ltb, leb, List, ℤ, pos, ◌+ℤ◌, ◌-ℤ◌, ◌*ℤ◌, ◌==◌, nat_lt, Float}
use Rattle.std.specs.Bool.{beq}
use Rattle.std.specs.Int.Signed.{quot_z, lt_z, le_z}
use Rattle.std.specs.Int.Bits.{bit_and, bit_or, bit_xor}
use Rattle.std.specs.Float.Ieee as Ieee
use Rattle.std.specs.Float.{Format, binary32, binary64}
use Rattle.verdict.specs.Verdict.{pick, both, either, within}
use Rattle.memory.specs.Memory.{splice, bytes_le, read_le}
use Rattle.values.specs.Types.{width_of}
use Rattle.values.specs.Width.{pattern, wrap, eq_z, signed_remainder, unsigned_remainder, flipped, shift_left, shift_right, rotate_left, rotate_right}
use Rattle.values.specs.Values.{typed, stored, truth_in, signed_in, unsigned_in, real_in, lreal_in}
use Rattle.values.specs.declared.Value.{Value}
use Rattle.values.specs.declared.Value.TheVariants.{Bool as VBool, Signed, Unsigned, Real, Lreal}

-- ---- a command by what it does to each kind

-- two operands of one kind
unfoldable pub on_kinds : (Bool → Bool → Bool) → (ℤ → ℤ → ℤ) → (ℕ → ℕ → ℕ) → (Format → Float → Float → Float) → Value → Value → Value
on_kinds f g h k (VBool x) v = VBool (f x (truth_in v))
on_kinds f g h k (Signed x) v = Signed (g x (signed_in v))
on_kinds f g h k (Unsigned x) v = Unsigned (h x (unsigned_in v))
on_kinds f g h k (Real x) v = Real (k binary32 x (real_in v))
on_kinds f g h k (Lreal x) v = Lreal (k binary64 x (lreal_in v))

-- one operand of bits
unfoldable pub on_bits : (Bool → Bool) → (ℕ → ℕ) → Value → Value
on_bits f h (VBool x) = VBool (f x)
on_bits f h (Signed x) = Signed x
on_bits f h (Unsigned x) = Unsigned (h x)
on_bits f h (Real x) = Real x
on_bits f h (Lreal x) = Lreal x

-- two operands of one kind, compared
unfoldable pub compared : (Bool → Bool → Bool) → (ℤ → ℤ → Bool) → (ℕ → ℕ → Bool) → (Float → Float → Bool) → Value → Value → Bool
compared f g h k (VBool x) v = f x (truth_in v)
compared f g h k (Signed x) v = g x (signed_in v)
compared f g h k (Unsigned x) v = h x (unsigned_in v)
compared f g h k (Real x) v = k x (real_in v)
compared f g h k (Lreal x) v = k x (lreal_in v)

-- the first operand, of a kind that the command does not take
abbrev pub left {ℓ} : {A : Type ℓ} → A → A → A
left x y = x

abbrev pub left_float : Format → Float → Float → Float
left_float f x y = x

abbrev pub same {ℓ} : {A : Type ℓ} → A → A
same x = x

-- ---- arithmetic: whole-number sums and products wrap at the width, float operations round once

unfoldable pub ADD : ℕ → Value → Value → Value
ADD w = on_kinds left (λ x y. wrap (8 * w) (x +ℤ y)) (λ x y. (x + y) % 2 ^ (8 * w)) Ieee.add

unfoldable pub SUB : ℕ → Value → Value → Value
SUB w = on_kinds left (λ x y. wrap (8 * w) (x -ℤ y)) (λ x y. pattern (8 * w) (pos x -ℤ pos y)) Ieee.sub

unfoldable pub MUL : ℕ → Value → Value → Value
MUL w = on_kinds left (λ x y. wrap (8 * w) (x *ℤ y)) (λ x y. (x * y) % 2 ^ (8 * w)) Ieee.mul

-- cut toward zero; the lowest by -1 wraps to the lowest
unfoldable pub DIV : ℕ → Value → Value → Value
DIV w = on_kinds left (λ x y. wrap (8 * w) (quot_z x y)) (λ x y. x / y) Ieee.div

-- with the dividend's sign; by 0 it is 0, at every width
unfoldable pub MOD : Value → Value → Value
MOD = on_kinds left signed_remainder unsigned_remainder left_float

-- ---- logic

unfoldable pub AND : Value → Value → Value
AND = on_kinds (λ x y. x && y) left bit_and left_float

unfoldable pub OR : Value → Value → Value
OR = on_kinds (λ x y. x || y) left bit_or left_float

unfoldable pub XOR : Value → Value → Value
XOR = on_kinds (λ x y. not (beq x y)) left bit_xor left_float

unfoldable pub NOT : ℕ → Value → Value
NOT w = on_bits not (flipped (8 * w))

-- ---- shifts, by a BYTE count n

unfoldable pub SHL : ℕ → Value → ℕ → Value
SHL w a n = on_bits same (λ x. shift_left (8 * w) x n) a

unfoldable pub SHR : ℕ → Value → ℕ → Value
SHR w a n = on_bits same (λ x. shift_right (8 * w) x n) a

unfoldable pub ROL : ℕ → Value → ℕ → Value
ROL w a n = on_bits same (λ x. rotate_left (8 * w) x n) a

unfoldable pub ROR : ℕ → Value → ℕ → Value
ROR w a n = on_bits same (λ x. rotate_right (8 * w) x n) a

-- ---- comparisons: false is below true; with NaN only NE is true

unfoldable pub GT : Value → Value → Bool
GT = compared (λ x y. x && not y) (λ x y. lt_z y x) (λ x y. ltb y x) (λ x y. Ieee.lt y x)

unfoldable pub GE : Value → Value → Bool
GE = compared (λ x y. x || not y) (λ x y. le_z y x) (λ x y. leb y x) (λ x y. Ieee.le y x)

unfoldable pub EQ : Value → Value → Bool
EQ = compared beq eq_z eqb Ieee.eq

unfoldable pub Le : Value → Value → Bool
Le = compared (λ x y. not x || y) le_z leb Ieee.le

unfoldable pub Lt : Value → Value → Bool
Lt = compared (λ x y. not x && y) lt_z ltb Ieee.lt

unfoldable pub NE : Value → Value → Bool
NE = compared (λ x y. not (beq x y)) (λ x y. not (eq_z x y)) (λ x y. not (x == y)) Ieee.ne

-- ---- the table by code byte

-- what the command gives on values of width w; the shifts count by n, which is the second operand's pattern
unfoldable pub result : ℕ → ℕ → Value → Value → ℕ → Value
result code w a b n =
    pick (code == 16) (ADD w a b)
    (pick (code == 17) (SUB w a b)
    (pick (code == 18) (MUL w a b)
    (pick (code == 19) (DIV w a b)
    (pick (code == 20) (MOD a b)
    (pick (code == 24) (AND a b)
    (pick (code == 25) (OR a b)
    (pick (code == 26) (XOR a b)
    (pick (code == 27) (NOT w a)
    (pick (code == 28) (SHL w a n)
    (pick (code == 29) (SHR w a n)
    (pick (code == 30) (ROL w a n)
    (pick (code == 31) (ROR w a n)
    (pick (code == 32) (VBool (GT a b))
    (pick (code == 33) (VBool (GE a b))
    (pick (code == 34) (VBool (EQ a b))
    (pick (code == 35) (VBool (Le a b))
    (pick (code == 36) (VBool (Lt a b))
    (pick (code == 37) (VBool (NE a b)) a))))))))))))))))))

-- the type of the result: BOOL for the comparisons
unfoldable pub result_type : ℕ → ℕ → ℕ
result_type code t = pick (within 32 37 code) 0 t

-- the bytes of the result
unfoldable pub result_width : ℕ → ℕ → ℕ
result_width code t = width_of (result_type code t)

-- the bytes of the second operand: a BYTE count for the shifts, none for NOT
unfoldable pub second_width : ℕ → ℕ → ℕ
second_width code t = pick (within 28 31 code) 1 (pick (code == 27) 0 (width_of t))

-- the stored pattern of the result, from those of the operands
unfoldable pub command : ℕ → ℕ → ℕ → ℕ → ℕ
command code t p q = stored (result_type code t) (result code (width_of t) (typed t p) (typed t q) q)

-- ---- zero divisors

-- DIV of a whole-number type by the pattern q of zero; a float divisor never is one, nor is that of MOD (document 02, 2.1)
unfoldable pub zero_divisor : ℕ → ℕ → ℕ → Bool
zero_divisor code t q = both (code == 19) (both (within 1 8 t) (q == 0))

-- the same of two values
unfoldable pub by_zero : Value → Value → Bool
by_zero (VBool x) v = false
by_zero (Signed x) v = eq_z (signed_in v) (pos 0)
by_zero (Unsigned x) v = unsigned_in v == 0
by_zero (Real x) v = false
by_zero (Lreal x) v = false

-- ---- operands beyond the data

-- "An operand is beyond the data if its place plus its width exceeds the data size"
unfoldable pub beyond : ℕ → ℕ → ℕ → Bool
beyond size place width = nat_lt size (place + width)

-- of two operands, of n bytes at p and of m bytes at q, one is
abbrev pub any_beyond : ℕ → ℕ → ℕ → ℕ → ℕ → Bool
any_beyond size p n q m = either (beyond size p n) (beyond size q m)

-- of a command's operands one is
abbrev pub typed_beyond : ℕ → ℕ → ℕ → ℕ → ℕ → ℕ → Bool
typed_beyond code t size to a b = either (beyond size to (result_width code t)) (any_beyond size a (width_of t) b (second_width code t))

-- ---- a command on memory

-- sources are read before the destination is written
unfoldable pub performed : ℕ → ℕ → List ℕ → ℕ → ℕ → ℕ → List ℕ
performed code t s to a b =
    splice s to (bytes_le (result_width code t) (command code t (read_le s a (width_of t)) (read_le s b (second_width code t))))
