-- From core to core: a length and the code.
use Prim.Native.Nat.{ℕ, ◌+◌, ◌*◌}
use mathlib.Core.Path.{◌≡◌, ap, ◌∙◌}
use native.Mathlib.Omega.{arith}
use lib.ListN.{get_or}
use Rattle.records.specs.File.{record_place}
use Rattle.taskset.specs.Judge.{code_place}
use Rattle.taskset.proofs.Laws.{code-next}
use Rattle.file_loading.proofs.code_place.Goals as goal

pub loop-init : goal.loop-init
unfolding code_place
loop-init c = let f = c.args.f.now in
    (c.record_place-p.ensures.0 ∙ ap (record_place f) (c.byte_at-m.ensures ∙ ap (λ (n : ℕ). get_or f (5 + 6 * n) 0) c.byte_at-n.ensures), omega (arith, c.record_place-p.ensures.1))

pub overflow_add-p-in-loop : goal.overflow_add-p-in-loop
overflow_add-p-in-loop c = omega (arith, c.word_at.ensures.1)

pub loop-preserved : goal.loop-preserved
loop-preserved c = (code-next _ _ _ _ c.loop.invariant.0 c.word_at.ensures.0, omega (arith, c.word_at.ensures.1, c.loop.invariant.1))

pub returns : goal.returns
returns c = let e : c.loop.counter ≡ c.args.k = omega arith in
    (c.loop.invariant.0 ∙ ap (code_place c.args.f.now) e, omega arith)
