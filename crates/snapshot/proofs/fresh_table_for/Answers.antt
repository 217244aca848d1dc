-- `snapshot::fresh_table_for` meets its contract: a table that is too short is refused after the file is judged; else the fresh state by value, refused
-- or not. Assumes nothing.
use mathlib.Core.Path.{◌∙◌}
use Rattle.snapshot.proofs.Laws.{fresh-short, fresh-stays, fresh-moves}
use Rattle.snapshot.proofs.fresh_table_for.Goals as goal

pub returns-then-t-byte_at : goal.returns-then-t-byte_at
returns-then-t-byte_at c = fresh-short _ _ _ _ _ _ _ c.byte_at.ensures _ _ c.if-t-byte_at.true (c.number.ensures.0 ∙ c.short_refusal.ensures) c.unchanged.ensures

pub returns-then-made-ne0 : goal.returns-then-made-ne0
returns-then-made-ne0 c = fresh-stays _ _ _ _ _ _ _ c.byte_at.ensures _ _ _ _ c.if-t-byte_at.false c.fresh_for-made.ensures c.if-made-ne0.true c.unchanged-then-made-ne0.ensures

pub returns : goal.returns
returns c = fresh-moves _ _ _ _ _ _ _ c.byte_at.ensures _ _ _ _ c.if-t-byte_at.false c.fresh_for-made.ensures c.if-made-ne0.false c.accepted.ensures
