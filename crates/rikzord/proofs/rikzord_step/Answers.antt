-- `rikzord::rikzord_step` meets its contract: the table is copied out, the call by value runs on the copy, and what it answers is written back. Assumes nothing.
use Rattle.rikzord.proofs.Laws.{step-written}
use Rattle.rikzord.proofs.rikzord_step.Goals as goal

pub returns : goal.returns
returns c = step-written _ _ _ _ _ _ _ _ _ _ _ _ _ _ c.load_table-t.ensures c.step_table-x.ensures c.save.ensures
