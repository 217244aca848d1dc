-- `snapshot::table_state::table_places` meets its contract: the four stacks are joined. Assumes nothing.
use Rattle.snapshot.specs.Snapshot.{held_places}
use Rattle.snapshot.proofs.table_state.table_places.Goals as goal

pub returns : goal.returns
unfolding held_places
returns c = c.join.ensures
