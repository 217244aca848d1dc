-- MCD's n lies on its list, and its n bytes lie in the code.
use Prim.Native.Nat.{◌+◌}
use mathlib.Core.Path.{sym, ◌∙◌}
use native.Mathlib.Omega.{arith}
use Rattle.code.proofs.Laws.{constant-short, constant-cut, constant-unlisted, constant-whole}
use Rattle.code.proofs.accepted_lengths.constant_length.Goals as goal

pub returns-then-left-lt-MCD : goal.returns-then-left-lt-MCD
returns-then-left-lt-MCD c = constant-short _ _ c.requires.1 (omega arith)

pub overflow_cast-all : goal.overflow_cast-all
overflow_cast-all c = omega (arith, c.type_inv.code (c.args.p + 3))

pub overflow_add-all : goal.overflow_add-all
overflow_add-all c = omega (arith, c.type_inv.code (c.args.p + 3))

pub returns-then-left-all : goal.returns-then-left-all
returns-then-left-all c = constant-cut _ _ c.requires.1 (omega arith)

pub returns-then-not-inside : goal.returns-then-not-inside
returns-then-not-inside c = constant-unlisted _ _ c.requires.1 (sym c.inside.ensures ∙ c.if-not-inside.true)

pub returns : goal.returns
returns c = constant-whole _ _ c.requires.1 (omega arith) (sym c.inside.ensures ∙ c.if-not-inside.false)
