-- `rikzord::rikzord_rerun` meets its contract: the table is copied out, the call by value runs on the copy, and what it answers is written back. Assumes nothing.
use Rattle.rikzord.proofs.Laws.{rerun-written}
use Rattle.rikzord.proofs.rikzord_rerun.Goals as goal

pub returns : goal.returns
returns c = rerun-written _ _ _ _ _ _ _ _ _ _ _ _ _ _ c.load_table-t.ensures c.rerun_table-x.ensures c.save.ensures
