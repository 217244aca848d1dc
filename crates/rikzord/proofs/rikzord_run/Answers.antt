-- `rikzord::rikzord_run` meets its contract: the table is copied out, the call by value runs on the copy, and what it answers is written back. Assumes nothing.
use Rattle.rikzord.proofs.Laws.{run-written, taken-written}
use Rattle.rikzord.proofs.rikzord_run.Goals as goal

pub returns : goal.returns
returns c = (
  run-written _ _ _ _ _ _ _ _ _ _ _ _ _ _ _ _ c.load_table-t.ensures c.run_table-x.ensures.0 c.save.ensures,
  taken-written _ _ _ _ _ _ _ _ _ _ _ c.load_table-t.ensures c.run_table-x.ensures.1,
)
