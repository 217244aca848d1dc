-- `Starting`: what is left from core k on is what was asked, and its count stands at p.
use Rattle.taskset.proofs.Laws.{Starting}
use Rattle.file_judging.proofs.refusals.judge_starts.Given as goal

abbrev pub invariant-loop-k : goal.invariant-loop-k
invariant-loop-k l = Starting l.f l.n l.p l.k
