use borrow.Author.Rules.{rules}
use Rattle.memory.proofs.Turns.{through}
use Rattle.memory.proofs.move_through.Goals as goal

pub returns : goal.returns
returns c = through _ _ _ _ _ _ _ (search rules) (search rules) c.copy.ensures c.copy-2.ensures
