-- `copies::move_singly` meets its contract. Assumes nothing.
use mathlib.Core.Path.{sym, ◌∙◌}
use native.Mathlib.Omega.{arith}
use lib.ListN.{length-set}
use borrow.Author.Rules.{rules}
use Rattle.memory.proofs.Turns.{copy_done, byte-done}
use Rattle.memory.proofs.Words.{moved-turn}
use Rattle.copies.proofs.move_singly.Goals as goal

pub loop-i-preserved : goal.loop-i-preserved
loop-i-preserved c = (
  simp length-set c.loop-i.invariant.0,
  moved-turn _ _ _ _ _ _ 1 (omega arith) (omega arith) (search rules) (byte-done _ _ _ _ (omega arith)) ∙ c.loop-i.invariant.1,
)

pub returns : goal.returns
returns c = sym (copy_done _ _ _ _ _ _ (omega arith)) ∙ c.loop-i.invariant.1
