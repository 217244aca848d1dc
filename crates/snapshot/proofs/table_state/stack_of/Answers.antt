-- `snapshot::table_state::stack_of` meets its contract: sixteen entries are copied over sixteen zeros. Assumes nothing.
use mathlib.Core.Path.{◌∙◌}
use native.Mathlib.Omega.{arith}
use Rattle.memory.proofs.Laws.{length_part}
use Rattle.snapshot.proofs.Laws.{splice-whole}
use Rattle.snapshot.proofs.table_state.stack_of.Goals as goal

pub returns : goal.returns
returns c = c.copy_entries.ensures ∙ splice-whole _ _ (length_part _ _ _ (omega arith))
