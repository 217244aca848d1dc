-- `semaphore::turn` meets its contract. Assumes nothing.
use mathlib.Core.Path.{◌≡◌, sym}
use native.Mathlib.Omega.{arith}
use lib.ListN.{length}
use borrow.Author.Rules.{rules}
use Rattle.semaphore.proofs.Laws.{held-turn, line-entry}
use Rattle.semaphore.proofs.turn.Goals as goal

pub returns-then-m-ne0 : goal.returns-then-m-ne0
returns-then-m-ne0 c = sym (held-turn _ _ _ c.if-m-ne0.true)

pub returns : goal.returns
returns c = (let n : length c.args.m.line ≡ 4 = search rules in sym (rw (c.if-m-ne0.false, line-entry c.args.m.line c.args.m.waiting 0 (omega (arith, c.if-m-eq0.false)) (omega (arith, n)))))
