-- `memory::move_words` meets its contract. Assumes nothing.
use borrow.Author.Rules.{rules}
use mathlib.Core.Path.{◌≡◌, sym, ap, ◌∙◌}
use Prim.Native.Nat.{◌/◌}
use native.Mathlib.Omega.{arith}
use lib.ListN.{length, length-set}
use Rattle.memory.proofs.Laws.{length-splice}
use Rattle.memory.proofs.Turns.{copy_done, byte-done}
use Rattle.memory.proofs.Words.{moved-on, moved-turn}
use Rattle.memory.proofs.move_words.Goals as goal

pub loop-i-preserved : goal.loop-i-preserved
loop-i-preserved c = let e = c.move_word.ensures in (
  ap length e ∙ length-splice _ _ _ ∙ c.loop-i.invariant.0,
  moved-on _ _ _ _ _ _ 8 _ (omega arith) (omega arith) (omega arith) (search rules) e ∙ c.loop-i.invariant.1,
)

pub loop-i-2-init : goal.loop-i-2-init
loop-i-2-init c =
    let all : c.args.n / 8 ≡ c.loop-i.i = omega arith in
    (c.loop-i.invariant.0, rw all c.loop-i.invariant.1)

pub loop-i-2-preserved : goal.loop-i-2-preserved
loop-i-2-preserved c = (
  simp length-set c.loop-i-2.invariant.0,
  moved-turn _ _ _ _ _ _ 1 (omega arith) (omega arith) (search rules) (byte-done _ _ _ _ (omega arith)) ∙ c.loop-i-2.invariant.1,
)

pub returns : goal.returns
returns c = sym (copy_done _ _ _ _ _ _ (omega arith)) ∙ c.loop-i-2.invariant.1
