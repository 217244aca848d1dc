-- `rerun::read` meets its contract: the exchange, then the execution. Assumes nothing.
use mathlib.Core.Path.{ap, ◌∙◌}
use Prim.Native.Nat.{ℕ}
use Rattle.protocol.specs.Registers.{read_acquired, read_released}
use Rattle.rerun.proofs.Reading.{reading-asks, started-stands, reads-of}
use Rattle.rerun.proofs.read.Goals as goal

pub read_exchange-time-requires : goal.read_exchange-time-requires
read_exchange-time-requires c = reading-asks c.requires

pub run_alone-requires : goal.run_alone-requires
run_alone-requires c = let a = c.args in (
  started-stands a.file.now a.trace.now c.requires.accepted a.k c.requires.known a.r a.places.now a.offsets.now
      a.buffer.now a.shared.now c.requires.idle c.requires.due _ _
      (c.read_released-started.ensures ∙ ap read_released
      (c.read_acquired.ensures ∙ ap (λ (n : ℕ). read_acquired n a.r) c.read_exchange-time.ensures.0))
      c.read_exchange-time.ensures.1 c.read_exchange-time.auto.buffer c.requires.cs c.requires.here
      c.requires.rests,
  c.requires.task,
)

pub returns : goal.returns
returns c = let a = c.args in
    reads-of a.file.now a.trace.now c.requires.accepted a.k c.requires.known a.r a.places.now a.offsets.now
    a.buffer.now a.shared.now c.requires.idle c.requires.due _ _
    (c.read_released-started.ensures ∙ ap read_released
    (c.read_acquired.ensures ∙ ap (λ (n : ℕ). read_acquired n a.r) c.read_exchange-time.ensures.0))
    c.read_exchange-time.ensures.1 c.read_exchange-time.auto.buffer _ _ _ _ c.run_alone.ensures.1
    c.run_alone.ensures.0
