-- By the mode. Assumes nothing.
use mathlib.Core.Path.{◌∙◌}
use mathlib.Core.Bool.{true, false}
use borrow.Author.Tests.{lt-ltb, le-ltb}
use Rattle.verdict.specs.Verdict.{pick}
use Rattle.verdict.proofs.Truth.{both-swap}
use Rattle.semaphore.specs.Line.{semaphore_of}
use Rattle.table.specs.Table.{served_or_joins, can_move}
use Rattle.table.proofs.Moves.{other-modes}
use Rattle.table.proofs.can_move.Goals as goal

pub returns-then-count-r : goal.returns-then-count-r
unfolding can_move pick
returns-then-count-r c = rw (c.if-r-eq-BETWEEN.true, le-ltb _ _ c.if-count-r.true) (both-swap false (served_or_joins (semaphore_of c.args.m) c.args.k))

pub returns-then-r-eq-BETWEEN : goal.returns-then-r-eq-BETWEEN
unfolding can_move pick
returns-then-r-eq-BETWEEN c = rw (c.if-r-eq-BETWEEN.true, lt-ltb _ _ c.if-count-r.false) (c.goes_on.ensures ∙ both-swap true (served_or_joins (semaphore_of c.args.m) c.args.k))

pub returns-then-r-eq-WAITING : goal.returns-then-r-eq-WAITING
unfolding can_move pick
returns-then-r-eq-WAITING c = rw c.if-r-eq-WAITING.true c.goes_on-then-r-eq-WAITING.ensures

pub returns : goal.returns
unfolding can_move
returns c = other-modes c.args.r.mode (served_or_joins (semaphore_of c.args.m) c.args.k) c.args.count c.args.r.cycles
    c.if-r-eq-BETWEEN.false c.if-r-eq-WAITING.false
