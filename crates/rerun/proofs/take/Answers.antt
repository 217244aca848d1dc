-- `rerun::take` meets its contract: a reading leaves shared memory, a writing everything else. Assumes nothing.
use mathlib.Core.Path.{refl}
use native.Mathlib.Omega.{arith}
use Rattle.rerun.proofs.Turns.{reading-due, writing-due, cycles-due}
use Rattle.rerun.proofs.take.Goals as goal

pub read-requires : goal.read-requires
read-requires c = reading-due c.requires c.if-b-lt-WRITINGS.true

pub returns-then-b-lt-WRITINGS : goal.returns-then-b-lt-WRITINGS
returns-then-b-lt-WRITINGS c = record { reads = λ s. (c.read.ensures, refl); writes = λ l. absurd (omega (arith, c.if-b-lt-WRITINGS.true)) }

pub write_exchange-requires : goal.write_exchange-requires
write_exchange-requires c = writing-due c.requires

pub write_released-requires : goal.write_released-requires
write_released-requires c = cycles-due c.requires (omega (arith, c.if-b-lt-WRITINGS.false))

pub returns : goal.returns
returns c = record { reads = λ s. absurd (omega (arith, c.if-b-lt-WRITINGS.false)); writes = λ l. (c.write_released.ensures, c.write_exchange.ensures, refl, refl, refl) }
