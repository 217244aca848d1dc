-- `Pairs`: what is left from number i on is what was asked, and `least` is what its place must reach.
use Rattle.taskset.proofs.Laws.{Pairs}
use Rattle.file_judging.proofs.refusals.judge_pairs.Given as goal

abbrev pub invariant-loop-i : goal.invariant-loop-i
invariant-loop-i l = Pairs l.f l.size l.p l.n l.least l.i
