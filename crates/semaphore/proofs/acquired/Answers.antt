-- `semaphore::acquired` meets its contract, whether a core waits or not. Assumes nothing.
use Rattle.std.proofs.Common.{arith, refl}
use native.Mathlib.Numerals.{add-one}
use Rattle.semaphore.proofs.Laws.{acquired-is}
use Rattle.semaphore.proofs.acquired.Goals as goal

pub returns : goal.returns
returns c = acquired-is c.requires.0 _ c.requires.1 c.requires.2 c.requires.3 (add-one _) (omega (arith, c.saturating_sub.ensures)) refl refl
