-- What is left from core k on is what was asked.
use Rattle.verdict.proofs.Verdict.{Going}
use Rattle.records.specs.Records.{core_refusal}
use Rattle.records.proofs.judge_cores.Given as goal

abbrev pub invariant-loop-k : goal.invariant-loop-k
invariant-loop-k l = Going (core_refusal l.profile l.f) 0 l.n l.k
