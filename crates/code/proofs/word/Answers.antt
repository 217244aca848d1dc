-- The two bytes, the low one first, are the number.
use Prim.Native.Nat.{◌+◌}
use native.Mathlib.Omega.{arith}
use mathlib.Core.Path.{sym}
use Rattle.memory.proofs.Number.{read_word}
use Rattle.code.proofs.word.Goals as goal

pub overflow_cast-low : goal.overflow_cast-low
overflow_cast-low c = omega (arith, c.type_inv.s c.args.place)

pub overflow_cast-high : goal.overflow_cast-high
overflow_cast-high c = omega (arith, c.type_inv.s (c.args.place + 1))

pub overflow_mul-result : goal.overflow_mul-result
overflow_mul-result c = omega (arith, c.type_inv.s (c.args.place + 1))

pub overflow_add-result : goal.overflow_add-result
overflow_add-result c = omega (arith, c.type_inv.s c.args.place, c.type_inv.s (c.args.place + 1))

pub returns : goal.returns
returns c = sym (read_word c.args.s.now c.args.place)
