-- `snapshot::table_state::join` meets its contract: each stack is copied to its place. Assumes nothing.
use mathlib.Core.Path.{refl}
use native.Mathlib.Omega.{arith}
use Rattle.snapshot.specs.Snapshot.{entries}
use Rattle.snapshot.proofs.Laws.{part-whole}
use Rattle.snapshot.proofs.table_state.join.Goals as goal

pub returns : goal.returns
unfolding entries
returns c = rw (
  c.copy_entries-4.ensures,
  c.copy_entries-3.ensures,
  c.copy_entries-2.ensures,
  c.copy_entries.ensures,
  part-whole c.args.a 16 (omega arith),
  part-whole c.args.b 16 (omega arith),
  part-whole c.args.c 16 (omega arith),
  part-whole c.args.d 16 (omega arith),
) refl
