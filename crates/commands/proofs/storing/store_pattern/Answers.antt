-- `commands::storing::store_pattern` meets its contract: what is copied is the pattern at the arm's width. Assumes nothing.
use borrow.Author.Rules.{rules}
use Rattle.values.proofs.Widths.{last-width}
use Rattle.commands.proofs.Attempts.{store_in, first-bytes, copied_at}
use Rattle.commands.proofs.storing.store_pattern.Goals as goal

pub copy-requires : goal.copy-requires
copy-requires c = (search store_in, search rules)

pub copy-requires-in-2 : goal.copy-requires-in-2
copy-requires-in-2 c = (search store_in, search rules)

pub copy-requires-in-4 : goal.copy-requires-in-4
copy-requires-in-4 c = (search store_in, search rules)

pub copy-requires-in_default : goal.copy-requires-in_default
copy-requires-in_default c = (search (store_in, last-width), search rules)

pub returns-in-1 : goal.returns-in-1
returns-in-1 c = copied_at _ _ _ _ _ _ _ c.in-1.is (first-bytes _ _ c.store.ensures).0 c.copy.ensures

pub returns-in-2 : goal.returns-in-2
returns-in-2 c = copied_at _ _ _ _ _ _ _ c.in-2.is (first-bytes _ _ c.store.ensures).1 c.copy-in-2.ensures

pub returns-in-4 : goal.returns-in-4
returns-in-4 c = copied_at _ _ _ _ _ _ _ c.in-4.is (first-bytes _ _ c.store.ensures).2 c.copy-in-4.ensures

pub returns-in_default : goal.returns-in_default
returns-in_default c = copied_at _ _ _ _ _ _ _ (search last-width) (first-bytes _ _ c.store.ensures).3 c.copy-in_default.ensures
