-- `rerun::read_data` meets its contract: the record, then the variables. Assumes nothing.
use mathlib.Core.Path.{ap, ◌∙◌}
use mathlib.Core.List.{List}
use Prim.Native.Nat.{ℕ}
use lib.ListN.{length}
use Rattle.memory.proofs.Laws.{length-splice}
use Rattle.protocol.specs.Step.{copy}
use Rattle.protocol.specs.Variables.{reads_of}
use Rattle.taskset.specs.Task.{variables_of}
use Rattle.rerun.proofs.read_data.Goals as goal

pub take_record-time-requires : goal.take_record-time-requires
take_record-time-requires c = (c.requires.0.ready, c.requires.1)

pub bring_all-requires : goal.bring_all-requires
bring_all-requires c = (
  c.requires.0.ready.accepted.laid,
  c.requires.0.ready.known,
  c.requires.0.from,
  c.requires.0.upto,
  ap length c.take_record-time.ensures.1 ∙ length-splice _ 0 _ ∙ c.requires.0.ready.fit.size,
  c.requires.0.shared,
)

pub returns : goal.returns
returns c = let a = c.args in (
  c.take_record-time.ensures.0,
  c.bring_all.ensures ∙ ap (λ (l : List ℕ). copy (reads_of (variables_of a.file.now) a.k) a.shared.now l)
      c.take_record-time.ensures.1,
)
