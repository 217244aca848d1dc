-- `snapshot::table_state::table_offsets` meets its contract: the four stacks are joined. Assumes nothing.
use Rattle.snapshot.specs.Snapshot.{held_offsets}
use Rattle.snapshot.proofs.table_state.table_offsets.Goals as goal

pub returns : goal.returns
unfolding held_offsets
returns c = c.join.ensures
