-- A computed test of all attribute bytes.
use borrow.Author.Rules.{rules}
use Rattle.records.proofs.Laws.{one_writer}
use Rattle.records.proofs.one_writer.Goals as goal

pub returns : goal.returns
returns c = one_writer c.args.a (search rules)
