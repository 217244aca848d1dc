-- The variables passed that name the core rise, and `end` is the end of the last.
use Rattle.records.proofs.Order.{RisenIn}
use Rattle.records.proofs.rising_in.Given as goal

abbrev pub invariant-loop-i : goal.invariant-loop-i
invariant-loop-i l = RisenIn l.f l.k l.i l.end
