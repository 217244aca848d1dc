-- The flag byte by masks is the flag byte by arithmetic: one computed test over all bytes and bits. Assumes nothing.
use mathlib.Core.Path.{◌≡◌}
use mathlib.Core.Bool.{Bool}
use Prim.Native.Nat.{ℕ, ◌*◌, ◌%◌, ◌^◌, ◌<◌}
use lib.Bits.{bit_and, bit_or}
use lib.Dec.{eqb, eqb→eq}
use Rattle.verdict.specs.Verdict.{upto}
use Rattle.verdict.proofs.Verdict.{below}
use Rattle.protocol.specs.Registers.{with_flag, warm}

sets : ℕ → ℕ → Bool
sets b f = eqb (bit_or f ((1 * 2 ^ b) % 256)) (with_flag b f)

clears : ℕ → Bool
clears f = eqb (bit_and f 251) (warm f)

-- `flags | (1 << bit)`
pub flag-or : (b f : ℕ) → b < 8 → f < 256 → bit_or f ((1 * 2 ^ b) % 256) ≡ with_flag b f
unfolding sets with_flag
flag-or b f h k = eqb→eq (bit_or f ((1 * 2 ^ b) % 256)) (with_flag b f) (below (sets b) 256 (below (λ i. upto (sets i) 256) 8 tt b h) f k)

-- `flags & !(1 << COLD_START)`
pub warm-and : (f : ℕ) → f < 256 → bit_and f 251 ≡ warm f
unfolding clears warm
warm-and f k = eqb→eq (bit_and f 251) (warm f) (below clears 256 tt f k)
