-- Document 02, 2.1: "MOD by zero shall give 0 for types 1 to 8 and set no flag; whole-number DIV by zero remains a fault." On stored patterns, as the
-- machine has them: p is the dividend's, q the divisor's. Not here: the definition (`Commands`); addresses, which are tried before any divisor.
use Rattle.std.specs.Prelude.{◌≡◌, ℕ, true, false}
use Rattle.verdict.specs.Items.{From}
use Rattle.values.specs.Commands.{command, zero_divisor}

pub record ModByZero : Type 0 where
  pub gives-0 : (t p : ℕ) → From 1 8 t → command 20 t p 0 ≡ 0
  pub no_flag : (t q : ℕ) → zero_divisor 20 t q ≡ false
  pub div-faults : (t : ℕ) → From 1 8 t → zero_divisor 19 t 0 ≡ true
