-- The record of this cycle lies within a trace that has bytes, its inputs within the data. Assumes nothing.
use mathlib.Core.Path.{refl}
use native.Mathlib.Omega.{arith}
use Rattle.steps.proofs.Given.{record-inside, inputs-inside, stored-time, stored-input, blank-time, blank-input}
use Rattle.steps.proofs.take_record.Goals as goal

pub clear-requires : goal.clear-requires
clear-requires c = omega (arith, inputs-inside c.requires.0)

pub returns-then-trace-eq0 : goal.returns-then-trace-eq0
returns-then-trace-eq0 c = (blank-time c.requires.0 c.if-trace-eq0.true, blank-input c.requires.0 c.if-trace-eq0.true _ c.clear.ensures)

pub overflow_add-place : goal.overflow_add-place
overflow_add-place c = record { fits = omega (arith, record-inside c.requires.0 c.if-trace-eq0.false c.requires.1) }

pub overflow_mul-place : goal.overflow_mul-place
overflow_mul-place c = record { fits = omega (arith, record-inside c.requires.0 c.if-trace-eq0.false c.requires.1) }

pub overflow_add-place-2 : goal.overflow_add-place-2
overflow_add-place-2 c = record { fits = omega (arith, record-inside c.requires.0 c.if-trace-eq0.false c.requires.1) }

pub overflow_add-place-3 : goal.overflow_add-place-3
overflow_add-place-3 c = record { fits = omega (arith, record-inside c.requires.0 c.if-trace-eq0.false c.requires.1) }

pub copy-requires : goal.copy-requires
copy-requires c = (omega (arith, inputs-inside c.requires.0), omega (arith, record-inside c.requires.0 c.if-trace-eq0.false c.requires.1))

pub load-requires : goal.load-requires
load-requires c = (omega (arith, record-inside c.requires.0 c.if-trace-eq0.false c.requires.1), omega arith)

pub returns : goal.returns
returns c = (
  stored-time c.requires.0 c.if-trace-eq0.false _ _ refl c.load.ensures.0,
  stored-input c.requires.0 c.if-trace-eq0.false _ _ refl c.copy.ensures,
)
