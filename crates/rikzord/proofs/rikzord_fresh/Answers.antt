-- `rikzord::rikzord_fresh` meets its contract: the table is copied out, the call by value runs on the copy, and what it answers is written back. Assumes nothing.
use Rattle.rikzord.proofs.Laws.{fresh-written}
use Rattle.rikzord.proofs.rikzord_fresh.Goals as goal

pub returns : goal.returns
returns c = fresh-written _ _ _ _ _ _ _ _ _ _ _ _ c.load_table-t.ensures c.fresh_table-x.ensures c.save.ensures
