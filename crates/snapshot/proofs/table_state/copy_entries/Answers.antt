-- `snapshot::table_state::copy_entries` meets its contract. Assumes nothing.
use Rattle.std.proofs.Common.{arith, rules}
use Rattle.memory.specs.Memory.{part}
use Rattle.memory.proofs.Laws.{length_part}
use Rattle.memory.proofs.Turns.{put_part}
use Rattle.snapshot.proofs.table_state.copy_entries.Goals as goal

pub returns : goal.returns
unfolding part
returns c = put_part _ _ _ _ _ _ (omega arith) (search rules) (length_part c.args.src.now c.args.from c.args.n (omega arith)) (omega arith)
