-- `commands::command::pattern_in` meets its contract: the sources are read by the type, and the laws of the command give the rest. Assumes nothing.
use Rattle.std.proofs.Common.{refl}
use Rattle.memory.specs.Memory.{read_le}
use Rattle.values.specs.Types.{width_of}
use Rattle.values.specs.Values.{stored, read_value}
use Rattle.values.specs.Commands.{result_width, second_width, command}
use Rattle.values.proofs.Types.{width-ok}
use Rattle.values.proofs.Commands.{taken-type, width_room}
use Rattle.commands.proofs.command.pattern_in.Goals as goal

pub result_width-requires : goal.result_width-requires
result_width-requires g c = rw (c.CODE.ensures) c.requires.0

pub width_of-requires : goal.width_of-requires
width_of-requires g c = taken-type g.C.Command.CODE c.args.t c.requires.0

pub read_value-requires : goal.read_value-requires
read_value-requires g c = (taken-type g.C.Command.CODE c.args.t c.requires.0, c.requires.1)

pub read-requires : goal.read-requires
read-requires g c = (taken-type g.C.Command.CODE c.args.t c.requires.0, rw (g.met.C.Command.second_is c.args.t) c.requires.2)

pub apply-requires : goal.apply-requires
unfolding read_value
apply-requires g c = (
  rw (c.width_of.ensures) (width-ok c.args.t (taken-type g.C.Command.CODE c.args.t c.requires.0)),
  rw (c.read_value.ensures, c.read.ensures, g.met.C.Command.second_is c.args.t) (g.met.C.Command.can_be c.args.t _ _ c.requires.0 c.requires.3),
)

pub pattern_of-requires : goal.pattern_of-requires
unfolding result_width
pattern_of-requires g c = rw (c.result_width.ensures) (width_room _)

pub returns : goal.returns
unfolding command stored result_width read_value
returns g c =
    let p = read_le c.args.d.now c.args.a (width_of c.args.t) in
    let q = read_le c.args.d.now c.args.b (second_width g.C.Command.CODE c.args.t) in
    rw (c.pattern_of.ensures, c.apply.ensures, c.width_of.ensures, c.read_value.ensures, c.read.ensures, g.met.C.Command.second_is c.args.t, c.result_width.ensures, c.CODE.ensures, g.met.C.Command.gives_is c.args.t p q) refl
