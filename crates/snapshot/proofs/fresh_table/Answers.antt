-- `snapshot::fresh_table` meets its contract: it is the call under the full profile. Assumes nothing.
use mathlib.Core.Path.{◌∙◌}
use Rattle.snapshot.proofs.Laws.{full-table}
use Rattle.snapshot.proofs.fresh_table.Goals as goal

pub returns : goal.returns
returns c = let a = c.args in
    c.fresh_table_for.ensures ∙ full-table a.file.now a.t a.semaphore a.buffer.now a.shared.now
