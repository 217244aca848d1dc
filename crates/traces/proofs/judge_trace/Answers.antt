-- The trace has no bytes; or its parts end where it ends, or they do not.
use mathlib.Core.Path.{sym, ◌∙◌}
use Rattle.taskset.proofs.Records.{judged-blank, judged-end, judged-elsewhere}
use Rattle.traces.proofs.judge_trace.Goals as goal

pub returns-then-is_blank : goal.returns-then-is_blank
returns-then-is_blank c = judged-blank _ _ (sym c.is_blank.ensures ∙ c.if-is_blank.true)

pub returns-then-trace_place-t : goal.returns-then-trace_place-t
returns-then-trace_place-t c = judged-end _ _ _ _ (sym c.is_blank.ensures ∙ c.if-is_blank.false) c.trace_place.ensures.0 c.byte_at.ensures c.if-trace_place-t.true

pub returns : goal.returns
returns c = judged-elsewhere _ _ _ _ (sym c.is_blank.ensures ∙ c.if-is_blank.false) c.trace_place.ensures.0 c.byte_at.ensures c.if-trace_place-t.false
