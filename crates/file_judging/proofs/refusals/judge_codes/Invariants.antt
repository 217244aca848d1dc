-- `Sections`: what is left from core k on is what was asked, and its length stands at p. The start values follow the last code.
use Rattle.taskset.proofs.Laws.{Sections}
use Rattle.file_judging.proofs.refusals.judge_codes.Given as goal

abbrev pub invariant-loop-k : goal.invariant-loop-k
invariant-loop-k l = Sections l.profile l.f l.n l.p l.k
