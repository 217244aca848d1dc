-- What is left from variable j on is what was asked; the records lie in the file.
use Prim.Native.Nat.{◌+◌}
use Rattle.verdict.proofs.Verdict.{Going}
use Rattle.records.specs.File.{variables}
use Rattle.records.specs.Records.{pair_refusal}
use Rattle.records.proofs.judge_overlap.Given as goal

abbrev pub invariant-loop-j : goal.invariant-loop-j
invariant-loop-j l = Going (pair_refusal l.f l.i) (l.i + 1) (variables l.f) l.j
