-- What is left from variable i on is what was asked.
use Rattle.verdict.proofs.Verdict.{Going}
use Rattle.records.specs.Records.{variable_refusal}
use Rattle.records.proofs.judge_variables.Given as goal

abbrev pub invariant-loop-i : goal.invariant-loop-i
invariant-loop-i l = Going (variable_refusal l.f) 0 l.m l.i
