-- `bounds::depth_at` meets its contract: each kind by the code byte, sums kept at 65,536. Assumes nothing.
use mathlib.Core.Path.{refl}
use native.Mathlib.Omega.{arith}
use Rattle.code.specs.Commands.{Returns, Jumps, Branches, Calls, Passes}
use Rattle.code.proofs.Laws.{kind-passes}
use Rattle.bounds.specs.Bounds.{depth_by}
use Rattle.bounds.proofs.Bytes.{kind-returns, kind-jumps, kind-branches, kind-calls, depth-caps, kept-as}
use Rattle.bounds.proofs.depth_at.Goals as goal

pub returns-in-0 : goal.returns-in-0
unfolding depth_by
returns-in-0 c = kept-as depth_by depth-caps Returns _ _ _ _ _ _ (kind-returns _ _ c.in-0.is) c.min-a.ensures c.min-t.ensures (refl)

pub returns-in-1 : goal.returns-in-1
unfolding depth_by
returns-in-1 c = kept-as depth_by depth-caps Jumps _ _ _ _ _ _ (kind-jumps _ _ c.in-1.is) c.min-a.ensures c.min-t.ensures (omega (arith, c.min-t.ensures))

pub returns-in-2-to-3 : goal.returns-in-2-to-3
unfolding depth_by
returns-in-2-to-3 c = kept-as depth_by depth-caps Branches _ _ _ _ _ _ (kind-branches _ _ (omega arith) (omega arith)) c.min-a.ensures c.min-t.ensures (omega (arith, c.max.ensures, c.min-a.ensures, c.min-t.ensures))

pub returns-in-4-to-5 : goal.returns-in-4-to-5
unfolding depth_by
returns-in-4-to-5 c = kept-as depth_by depth-caps Calls _ _ _ _ _ _ (kind-calls _ _ (omega arith) (omega arith)) c.min-a.ensures c.min-t.ensures (omega (arith, c.max-in-4-to-5.ensures, c.min.ensures))

pub returns-in_default : goal.returns-in_default
unfolding depth_by
returns-in_default c = kept-as depth_by depth-caps Passes _ _ _ _ _ _ (kind-passes _ _ (omega arith)) c.min-a.ensures c.min-t.ensures (omega (arith, c.min-a.ensures))
