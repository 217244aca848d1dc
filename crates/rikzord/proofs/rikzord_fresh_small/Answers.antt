-- `rikzord::rikzord_fresh_small` meets its contract: the table is copied out, the call by value runs on the copy, and what it answers is written back. Assumes nothing.
use Rattle.rikzord.proofs.Laws.{fresh-written-for}
use Rattle.rikzord.proofs.rikzord_fresh_small.Goals as goal

pub returns : goal.returns
returns c = fresh-written-for _ _ _ _ _ _ _ _ _ _ _ _ _ c.load_table-t.ensures c.fresh_small_table-x.ensures c.save.ensures
