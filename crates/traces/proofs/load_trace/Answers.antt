-- The refusal decides.
use mathlib.Core.Path.{sym}
use Rattle.verdict.specs.Verdict.{pick}
use Rattle.verdict.proofs.Refusals.{handed}
use Rattle.taskset.specs.Trace.{load_trace_of}
use Rattle.taskset.proofs.Records.{trace-refused}
use Rattle.traces.proofs.load_trace.Goals as goal

pub returns-in_err-judge_trace : goal.returns-in_err-judge_trace
returns-in_err-judge_trace c = rw (handed _ _ c.from_residual.ensures.1) (trace-refused _ _ _ c.in_err-judge_trace.ensures)

pub returns : goal.returns
unfolding load_trace_of pick
returns c = rw (
  sym c.in_ok-judge_trace.ensures,
  c.count_of.ensures,
  c.count_of-2.ensures,
  c.count_of-3.ensures,
  c.count_of-4.ensures,
  c.first_of.ensures,
  c.first_of-2.ensures,
  c.first_of-3.ensures,
  c.first_of-4.ensures,
)
