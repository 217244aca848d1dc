-- Zero past the last core, else the place after the count.
use mathlib.Core.Path.{sym}
use native.Mathlib.Omega.{arith}
use borrow.Author.Tests.{lt-ltb, le-ltb}
use Rattle.verdict.specs.Verdict.{pick}
use Rattle.taskset.specs.Trace.{first_of}
use Rattle.traces.proofs.first_of.Goals as goal

pub returns-then-byte_at-k : goal.returns-then-byte_at-k
unfolding first_of pick
returns-then-byte_at-k c = rw (sym c.byte_at.ensures, le-ltb _ _ c.if-byte_at-k.true)

pub returns : goal.returns
unfolding first_of pick
returns c = rw (sym c.byte_at.ensures, lt-ltb _ _ c.if-byte_at-k.false, sym c.trace_place.ensures.0) (omega arith)
