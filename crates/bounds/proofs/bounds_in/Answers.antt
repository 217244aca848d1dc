-- `bounds::bounds_in` meets its contract: 25, then 26, then the numbers. Assumes nothing.
use mathlib.Core.Path.{refl}
use Rattle.bounds.proofs.Answer.{found-falls, found-long, found-both}
use Rattle.bounds.proofs.bounds_in.Goals as goal

pub returns-in-None : goal.returns-in-None
returns-in-None c = found-falls _ _ _ _ c.in-None.ensures refl

pub returns-in-Some : goal.returns-in-Some
returns-in-Some c = found-long _ _ _ _ c.in-Some.ensures refl c.if-numbers-gt-MOST_COUNT.true

pub returns-in-Some-2 : goal.returns-in-Some-2
returns-in-Some-2 c = found-both _ _ _ _ c.in-Some.ensures refl c.if-numbers-gt-MOST_COUNT.false
