-- `bounds::count_at` meets its contract: each kind by the code byte, sums kept at 65,536. Assumes nothing.
use mathlib.Core.Path.{refl}
use native.Mathlib.Omega.{arith}
use Rattle.code.specs.Commands.{Returns, Jumps, Branches, Calls, Passes}
use Rattle.code.proofs.Laws.{kind-passes}
use Rattle.bounds.specs.Bounds.{count_by}
use Rattle.bounds.proofs.Bytes.{kind-returns, kind-jumps, kind-branches, kind-calls, count-caps, kept-as}
use Rattle.bounds.proofs.count_at.Goals as goal

pub returns-in-0 : goal.returns-in-0
unfolding count_by
returns-in-0 c = kept-as count_by count-caps Returns _ _ _ _ _ _ (kind-returns _ _ c.in-0.is) c.min-a.ensures c.min-t.ensures (refl)

pub returns-in-1 : goal.returns-in-1
unfolding count_by
returns-in-1 c = kept-as count_by count-caps Jumps _ _ _ _ _ _ (kind-jumps _ _ c.in-1.is) c.min-a.ensures c.min-t.ensures (c.min.ensures)

pub returns-in-2-to-3 : goal.returns-in-2-to-3
unfolding count_by
returns-in-2-to-3 c = kept-as count_by count-caps Branches _ _ _ _ _ _ (kind-branches _ _ (omega arith) (omega arith)) c.min-a.ensures c.min-t.ensures (omega (arith, c.max.ensures, c.min-in-2-to-3.ensures))

pub returns-in-4-to-5 : goal.returns-in-4-to-5
unfolding count_by
returns-in-4-to-5 c = kept-as count_by count-caps Calls _ _ _ _ _ _ (kind-calls _ _ (omega arith) (omega arith)) c.min-a.ensures c.min-t.ensures (c.min-in-4-to-5.ensures)

pub returns-in_default : goal.returns-in_default
unfolding count_by
returns-in_default c = kept-as count_by count-caps Passes _ _ _ _ _ _ (kind-passes _ _ (omega arith)) c.min-a.ensures c.min-t.ensures (c.min-in_default.ensures)
