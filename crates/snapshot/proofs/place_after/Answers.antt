-- `snapshot::place_after` meets its contract: a remainder by the number of cores, which is a byte. Assumes nothing.
use mathlib.Core.Path.{sym}
use Prim.Native.Nat.{◌+◌, ◌<◌}
use native.Mathlib.Nat.{mod-lt}
use native.Mathlib.Omega.{arith}
use borrow.Author.Tests.{eq-eqb, ne_eqb}
use Rattle.verdict.proofs.Verdict.{pick_true, pick-false}
use Rattle.snapshot.proofs.place_after.Goals as goal

pub returns-then-r-eq0 : goal.returns-then-r-eq0
returns-then-r-eq0 c = sym (pick_true _ _ _ (eq-eqb _ 0 c.if-r-eq0.true))

pub overflow_cast-result-4 : goal.overflow_cast-result-4
overflow_cast-result-4 c = let a = c.args in
    let some : 0 < a.r.cores = omega (arith, c.if-r-eq0.false) in
    omega (arith, mod-lt (a.r.given + (a.i + 1)) some)

pub returns : goal.returns
returns c = sym (pick-false _ _ _ (ne_eqb _ 0 c.if-r-eq0.false))
