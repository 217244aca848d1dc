-- Whole numbers at a width of b bits, for every b: the pattern that stands for a number, the number that a pattern stands for, wrapping,
-- remainders, and what logic, shifts and rotations make of a pattern. In order: widths; numbers and patterns; remainders; bits.
use Rattle.std.specs.Prelude.{◌≡◌, ℕ, suc, ◌+◌, ◌-◌, ◌*◌, ◌/◌, ◌%◌, ◌^◌, Bool, false, ◌⊎◌, ℤ, pos, negsuc, ◌==◌, int_rem, nat_le, nat_lt}
use Rattle.verdict.specs.Verdict.{pick}

-- ---- widths

-- the widths of the types, in bytes
abbrev pub Width : ℕ → Type 0
Width w = (w ≡ 1) ⊎ ((w ≡ 2) ⊎ ((w ≡ 4) ⊎ (w ≡ 8)))

-- ---- numbers and patterns

-- the pattern of z: its remainder modulo 2 ^ b
unfoldable pub pattern : ℕ → ℤ → ℕ
pattern b (pos n) = n % 2 ^ b
pattern b (negsuc n) = 2 ^ b - suc (n % 2 ^ b)

-- the pattern p read in two's complement
unfoldable pub signed : ℕ → ℕ → ℤ
signed b p = pick (nat_lt p (2 ^ (b - 1))) (pos p) (negsuc (2 ^ b - suc p))

-- z brought into the range of a signed number
unfoldable pub wrap : ℕ → ℤ → ℤ
wrap b z = signed b (pattern b z)

-- whether two whole numbers are equal
abbrev pub eq_z : ℤ → ℤ → Bool
eq_z (pos a) (pos b) = a == b
eq_z (pos a) (negsuc b) = false
eq_z (negsuc a) (pos b) = false
eq_z (negsuc a) (negsuc b) = a == b

-- ---- remainders

-- with the dividend's sign; by 0 it is 0 (document 02, 2.1: "IEC 61131-3 defines IN1 MOD 0 as 0")
unfoldable pub signed_remainder : ℤ → ℤ → ℤ
signed_remainder x y = pick (eq_z y (pos 0)) (pos 0) (int_rem x y)

unfoldable pub unsigned_remainder : ℕ → ℕ → ℕ
unsigned_remainder x y = pick (y == 0) 0 (x % y)

-- ---- bits

-- each of the b bits of p turned over
unfoldable pub flipped : ℕ → ℕ → ℕ
flipped b p = 2 ^ b - suc (p % 2 ^ b)

-- p moved up or down by n places; by the width or more: 0
unfoldable pub shift_left : ℕ → ℕ → ℕ → ℕ
shift_left b p n = pick (nat_le b n) 0 (p * 2 ^ n % 2 ^ b)

unfoldable pub shift_right : ℕ → ℕ → ℕ → ℕ
shift_right b p n = pick (nat_le b n) 0 (p / 2 ^ n)

-- the b bits of p turned round by k places upward, k at most b: the k highest come in below
unfoldable pub turned : ℕ → ℕ → ℕ → ℕ
turned b p k = p % 2 ^ (b - k) * 2 ^ k + p / 2 ^ (b - k) % 2 ^ k

-- rotations go modulo the width
unfoldable pub rotate_left : ℕ → ℕ → ℕ → ℕ
rotate_left b p n = turned b p (n % b)

unfoldable pub rotate_right : ℕ → ℕ → ℕ → ℕ
rotate_right b p n = turned b p (b - n % b)
