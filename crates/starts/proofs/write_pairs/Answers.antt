-- `Pairing`: i start values are written, and what is left makes of the data what all make of them at entry. Assumes nothing.
use mathlib.Core.Path.{refl}
use native.Mathlib.Omega.{arith}
use Rattle.starts.proofs.Laws.{pairing-none, pairing-more, pairing-inside, pairing-done}
use Rattle.starts.proofs.write_pairs.Goals as goal

pub loop-i-init : goal.loop-i-init
loop-i-init c = pairing-none _ _ _ _ _ (omega arith)

pub overflow_add-d : goal.overflow_add-d
overflow_add-d c = omega (arith, c.loop-i.invariant.here, c.requires.0)

pub bounds-f-at : goal.bounds-f-at
bounds-f-at c = omega (arith, c.loop-i.invariant.here, c.requires.0)

pub bounds-d-place : goal.bounds-d-place
bounds-d-place c = pairing-inside _ _ _ _ _ _ _ c.loop-i.invariant _ c.loop-i-test.true c.word_at-place.ensures.0 c.requires.1

pub loop-i-preserved : goal.loop-i-preserved
loop-i-preserved c = pairing-more _ _ _ _ _ _ _ c.loop-i.invariant _ _ _ (omega arith) c.loop-i-test.true c.word_at-place.ensures.0 refl

pub shape_of-d : goal.shape_of-d
shape_of-d c = c.loop-i.invariant.size

pub returns : goal.returns
returns c = pairing-done _ _ _ _ _ _ _ c.loop-i.invariant c.loop-i-test.false
