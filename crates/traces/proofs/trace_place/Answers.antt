-- From core to core: a count and the records.
use mathlib.Core.Path.{◌≡◌, refl, ap, ◌∙◌}
use native.Mathlib.Omega.{arith}
use Rattle.taskset.specs.Trace.{trace_place}
use Rattle.taskset.proofs.Laws.{trace-next, records-small}
use Rattle.traces.proofs.trace_place.Goals as goal

pub loop-i-init : goal.loop-i-init
unfolding trace_place
loop-i-init c = (refl, omega arith)

pub overflow_add-p-in-loop-i : goal.overflow_add-p-in-loop-i
overflow_add-p-in-loop-i c = omega (arith, c.word_at.ensures.1)

pub overflow_mul-p : goal.overflow_mul-p
overflow_mul-p c = omega (arith, records-small _ _ c.word_at-n.ensures.1 c.word_at.ensures.1)

pub overflow_add-p-in-loop-i-2 : goal.overflow_add-p-in-loop-i-2
overflow_add-p-in-loop-i-2 c = omega (arith, records-small _ _ c.word_at-n.ensures.1 c.word_at.ensures.1)

pub loop-i-preserved : goal.loop-i-preserved
loop-i-preserved c = (trace-next _ _ _ _ _ _ c.loop-i.invariant.0 c.word_at-n.ensures.0 c.word_at.ensures.0, omega (arith, records-small _ _ c.word_at-n.ensures.1 c.word_at.ensures.1, c.loop-i.invariant.1))

pub returns : goal.returns
returns c = let e : c.loop-i.i ≡ c.args.k = omega arith in
    (c.loop-i.invariant.0 ∙ ap (trace_place c.args.f.now c.args.t.now) e, omega (arith, c.loop-i.invariant.1))
