-- Zero past the last core; one where the trace has no bytes, else the count.
use mathlib.Core.Path.{sym, ◌∙◌}
use borrow.Author.Tests.{le-ltb}
use Rattle.verdict.specs.Verdict.{pick}
use Rattle.taskset.specs.Trace.{count_of}
use Rattle.taskset.proofs.Records.{counted-blank, counted-stored}
use Rattle.traces.proofs.count_of.Goals as goal

pub returns-then-byte_at-k : goal.returns-then-byte_at-k
unfolding count_of pick
returns-then-byte_at-k c = rw (sym c.byte_at.ensures, le-ltb _ _ c.if-byte_at-k.true)

pub returns-then-is_blank : goal.returns-then-is_blank
returns-then-is_blank c = counted-blank _ _ _ _ c.byte_at.ensures c.if-byte_at-k.false (sym c.is_blank.ensures ∙ c.if-is_blank.true)

pub returns : goal.returns
returns c = counted-stored _ _ _ _ _ _ c.byte_at.ensures c.if-byte_at-k.false (sym c.is_blank.ensures ∙ c.if-is_blank.false) c.trace_place.ensures.0 c.word_at.ensures.0
