-- `semaphore::in_line` meets its contract. Assumes nothing.
use Rattle.std.proofs.Common.{◌∙◌}
use borrow.Author.Tests.{le-ltb}
use Rattle.semaphore.proofs.Laws.{found-from, found-none}
use Rattle.semaphore.proofs.in_line.Goals as goal

pub returns-then-from-waiting : goal.returns-then-from-waiting
returns-then-from-waiting c =
    c.contains.ensures.value ∙ found-from c.args.m.line c.args.m.waiting c.from-waiting.result c.args.from c.args.k (c.from-waiting.ensures ∙ c.cores_in_line.ensures)

pub returns-else-from-waiting : goal.returns-else-from-waiting
returns-else-from-waiting c = le-ltb _ _ c.if-from-waiting.false ∙ found-none _ _ _ _ _ (c.from-waiting.ensures ∙ c.cores_in_line.ensures) c.if-from-waiting.false
