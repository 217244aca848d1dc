-- `memory::store` meets its contract. Assumes nothing.
use Rattle.std.proofs.Common.{◌∙◌, sym, length-set, arith}
use Rattle.memory.proofs.Number.{length-bytes_le}
use Rattle.memory.proofs.Turns.{put_part, store-turn, store-done}
use Rattle.memory.proofs.store.Goals as goal

pub loop-b-preserved : goal.loop-b-preserved
loop-b-preserved c = (
  simp length-set c.loop-b.invariant.0,
  store-turn _ _ _ _ (omega arith) (omega arith) ∙ c.loop-b.invariant.1,
)

pub returns : goal.returns
returns c = put_part _ _ _ _ _ _ (omega arith) (sym (store-done _ _ _ _ (omega arith) (omega arith)) ∙ c.loop-b.invariant.1) (length-bytes_le _ _) (omega arith)
