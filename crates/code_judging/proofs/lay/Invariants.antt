-- `Laying`: what is left to judge is what was asked, and the marks are the starts that were passed and the targets that were not.
use Prim.Native.Nat.{◌-◌}
use lib.ListN.{length}
use Rattle.code.proofs.Laying.{Laying}
use Rattle.code_judging.proofs.lay.Given as goal

abbrev pub invariant-loop-p : goal.invariant-loop-p
invariant-loop-p l = Laying (length l.initial.marks) l.profile l.code l.p l.last l.outside l.marks

abbrev pub decreases-loop-p : goal.decreases-loop-p
decreases-loop-p l = length l.code - l.p
