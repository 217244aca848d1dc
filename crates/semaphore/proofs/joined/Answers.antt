-- `semaphore::joined` meets its contract. Assumes nothing.
use mathlib.Core.Path.{refl}
use native.Mathlib.Omega.{arith}
use Rattle.semaphore.proofs.Laws.{waiting-is, joined_is}
use Rattle.semaphore.proofs.joined.Goals as goal

pub bounds-line-at : goal.bounds-line-at
bounds-line-at c = omega (arith, waiting-is c.requires.0, c.requires.3)

pub overflow_add-semaphore : goal.overflow_add-semaphore
overflow_add-semaphore c = record { fits = omega (arith, waiting-is c.requires.0, c.requires.3) }

pub returns : goal.returns
returns c = joined_is c.requires.0 _ c.requires.1 c.requires.2 c.requires.3 refl refl refl
