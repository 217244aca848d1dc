-- `commands::command::typed` meets its contract. The operands lie inside the data; what is stored is the command's effect (`known-done`). Assumes nothing.
use Rattle.std.proofs.Common.{refl, sym, ◌∙◌}
use Rattle.commands.proofs.Known.{known-first, known-second, known-result, known-zero, known-done}
use Rattle.commands.proofs.Results.{known_width}
use Rattle.commands.proofs.command.typed.Goals as goal

pub zero_divisor-requires : goal.zero_divisor-requires
zero_divisor-requires g c =
    rw (c.CODE.ensures) (c.requires.1, known-second g.C.Command.CODE c.args.t c.args.o c.args.d.now c.requires.0 c.requires.2 _ refl)

pub returns-then-zero_divisor : goal.returns-then-zero_divisor
returns-then-zero_divisor g c =
    known-zero g.C.Command.CODE c.args.t c.args.o c.args.d.now c.requires.0 c.requires.2 _ (rw (← c.CODE.ensures) c.zero_divisor.ensures) c.if-zero_divisor.true

pub result_width-requires : goal.result_width-requires
result_width-requires g c = rw (c.CODE-2.ensures) c.requires.1

pub pattern-requires : goal.pattern-requires
pattern-requires g c =
    let code = g.C.Command.CODE in (
      c.requires.1,
      known-first code c.args.t c.args.o c.args.d.now c.requires.0 c.requires.2,
      known-second code c.args.t c.args.o c.args.d.now c.requires.0 c.requires.2 _ refl,
      rw (← c.CODE.ensures) (sym c.zero_divisor.ensures ∙ c.if-zero_divisor.false),
    )

pub store_pattern-requires : goal.store_pattern-requires
store_pattern-requires g c =
    let code = g.C.Command.CODE in
    rw (c.result_width.ensures, c.CODE-2.ensures)
    (known_width code c.args.t c.requires.1, known-result code c.args.t c.args.o c.args.d.now c.requires.0 c.requires.2 _ refl)

pub returns : goal.returns
returns g c =
    let code = g.C.Command.CODE in
    known-done code c.args.t c.args.o c.args.d.now c.requires.0 c.requires.2 _ c.result_width.result c.pattern.result
    (rw (← c.CODE-2.ensures) c.result_width.ensures)
    (rw (← c.CODE.ensures) (sym c.zero_divisor.ensures ∙ c.if-zero_divisor.false)) c.pattern.ensures c.store_pattern.ensures
