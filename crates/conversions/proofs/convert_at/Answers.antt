-- `conversions::convert_at` meets its contract. The addresses are tried; then what is converted is stored, or not held. Assumes nothing.
use Rattle.std.proofs.Common.{length, ap, ◌∙◌}
use Rattle.values.specs.Values.{read_value}
use Rattle.values.specs.Types.{width_of}
use Rattle.memory.specs.Memory.{read_le}
use Rattle.values.specs.declared.Value.{Value}
use Rattle.std.specs.Prelude.{Option}
use Rattle.conversions.specs.Conversions.{result_as, to_type, converted}
use Rattle.conversions.specs.Data.{settled, converting}
use Rattle.commands.proofs.Attempts.{place-fits}
use Rattle.conversions.proofs.Data.{to_in, source_in, was-beyond, was-tried}
use Rattle.conversions.proofs.convert_at.Goals as goal

pub either_beyond-requires : goal.either_beyond-requires
either_beyond-requires c = let a = c.args in (place-fits a.destination _ a.to c.requires.2 c.width_of.ensures, place-fits a.source _ a.from c.requires.3 c.width_of-2.ensures)

pub returns-then-either_beyond : goal.returns-then-either_beyond
unfolding converting
returns-then-either_beyond c = let a = c.args in
    was-beyond a.d.now a.destination _ a.source _ a.to a.from _ c.either_beyond.ensures c.width_of.ensures c.width_of-2.ensures
    (converted a.from a.to (read_le a.d.now a.source (width_of a.from))) c.if-either_beyond.true

pub read_value-v-requires : goal.read_value-v-requires
read_value-v-requires c = let a = c.args in (
  c.requires.0,
  source_in (length a.d.now) a.destination _ a.source _ a.to a.from _ c.either_beyond.ensures
      c.width_of.ensures c.width_of-2.ensures c.if-either_beyond.false,
)

pub settle-requires : goal.settle-requires
settle-requires c = let a = c.args in (
  c.requires.1,
  to_in (length a.d.now) a.destination _ a.source _ a.to a.from _ c.either_beyond.ensures c.width_of.ensures
      c.width_of-2.ensures c.if-either_beyond.false,
)

pub returns : goal.returns
unfolding converting converted read_value
returns c = let a = c.args in
    was-tried a.d.now a.destination _ a.source _ a.to a.from _ c.either_beyond.ensures c.width_of.ensures
    c.width_of-2.ensures (converted a.from a.to (read_le a.d.now a.source (width_of a.from))) c.if-either_beyond.false _ _
    (c.settle.ensures
    ∙ ap (λ (x : Option Value). settled a.to a.d.now a.destination (result_as a.to x))
    (c.convert.ensures ∙ ap (to_type a.to) c.read_value-v.ensures))
