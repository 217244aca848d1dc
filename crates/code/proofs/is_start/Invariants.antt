-- `Walking`: whether the place is met from here on is what was asked.
use Prim.Native.Nat.{◌-◌}
use Rattle.code.proofs.Passes.{Walking}
use Rattle.code.proofs.is_start.Given as goal

abbrev pub invariant-loop-p : goal.invariant-loop-p
invariant-loop-p l = Walking l.code l.place l.p

abbrev pub decreases-loop-p : goal.decreases-loop-p
decreases-loop-p l = l.place - l.p
