-- The variables passed rise, and `end` is the end of the last.
use Rattle.records.proofs.Order.{RisenShared}
use Rattle.records.proofs.rising_shared.Given as goal

abbrev pub invariant-loop-i : goal.invariant-loop-i
invariant-loop-i l = RisenShared l.f l.i l.end
