-- The sizes before core i are added up.
use mathlib.Core.Path.{◌≡◌, refl, ap, ◌∙◌}
use native.Mathlib.Omega.{arith}
use Rattle.taskset.specs.Layout.{base_place}
use Rattle.taskset.proofs.Laws.{base-next}
use Rattle.file_loading.proofs.base_place.Goals as goal

pub loop-i-init : goal.loop-i-init
unfolding base_place
loop-i-init c = (refl, omega arith)

pub loop-i-preserved : goal.loop-i-preserved
loop-i-preserved c = (base-next _ _ _ _ c.loop-i.invariant.0 c.word_at-b.ensures.0, omega (arith, c.word_at-b.ensures.1, c.loop-i.invariant.1))

pub returns : goal.returns
returns c = let e : c.loop-i.i ≡ c.args.k = omega arith in c.loop-i.invariant.0 ∙ ap (base_place c.args.f.now) e
