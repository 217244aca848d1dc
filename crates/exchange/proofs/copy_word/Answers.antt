-- `exchange::copy_word` meets its contract: out to a word and in again. Assumes nothing.
use borrow.Author.Rules.{rules}
use Rattle.exchange.proofs.Carrying.{through_word}
use Rattle.exchange.proofs.copy_word.Goals as goal

pub returns : goal.returns
returns c = through_word _ _ _ _ _ _ _ _ (search rules) (search rules) c.copy.ensures c.copy-2.ensures
