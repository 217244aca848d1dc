-- Where all rise no two meet; else what is left from variable i on is what was asked.
use Rattle.verdict.proofs.Verdict.{Going}
use Rattle.records.specs.Records.{overlap_refusal}
use Rattle.records.proofs.judge_overlaps.Given as goal

abbrev pub invariant-loop-i : goal.invariant-loop-i
invariant-loop-i l = Going (overlap_refusal l.f) 0 l.m l.i
