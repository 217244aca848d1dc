-- `table_rerun::rerun_table` meets its contract: a table that is too short is refused after the file is judged; else the rerun by value, refused or not.
-- Assumes nothing.
use mathlib.Core.Path.{◌∙◌}
use borrow.Author.Rules.{rules}
use Rattle.snapshot.proofs.Laws.{rerun-short, rerun-stays, rerun-moves}
use Rattle.table_rerun.proofs.rerun_table.Goals as goal

pub returns-then-t-byte_at : goal.returns-then-t-byte_at
returns-then-t-byte_at c = rerun-short _ _ _ _ _ _ _ _ c.byte_at.ensures _ _ c.if-t-byte_at.true (c.number.ensures.0 ∙ c.short_refusal.ensures) c.unchanged.ensures

pub returns-then-reran-ne0 : goal.returns-then-reran-ne0
returns-then-reran-ne0 c = rerun-stays _ _ _ _ _ _ _ _ c.byte_at.ensures _ _ _ _ c.if-t-byte_at.false c.rerun-reran.ensures c.if-reran-ne0.true c.unchanged-then-reran-ne0.ensures

pub returns : goal.returns
returns c = rerun-moves _ _ _ _ _ _ _ _ c.byte_at.ensures _ _ _ _ c.if-t-byte_at.false c.rerun-reran.ensures c.if-reran-ne0.false c.accepted.ensures
