-- `rikzord::rikzord_next_core` meets its contract: the judging of the copied table, the scan of the lent one and the answer (`next-lent`). Assumes nothing.
use Rattle.rikzord.proofs.Scanning.{next-lent}
use Rattle.rikzord.proofs.rikzord_next_core.Goals as goal

pub returns : goal.returns
returns c = next-lent _ _ _ _ _ _ _ _ _ _ _ c.load_table-t.ensures c.ring_of-ring.ensures c.scan-k.ensures c.found_in.ensures
