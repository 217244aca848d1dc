-- `beyond::typed_beyond` meets its contract. Away from the end no operand is beyond (`none-beyond`); near it the widths decide. Assumes nothing.
use borrow.Author.Rules.{rules}
use Rattle.values.proofs.Commands.{width_room}
use Rattle.commands.proofs.Attempts.{given-type, place-fits}
use Rattle.commands.proofs.Known.{none-beyond}
use Rattle.beyond.proofs.Widths.{result-room, second-room, alike-beyond, shifted-beyond, compared-beyond}
use Rattle.beyond.proofs.typed_beyond.Goals as goal

pub width_of-width-requires : goal.width_of-width-requires
width_of-width-requires c = search given-type

pub beyond-requires : goal.beyond-requires
beyond-requires c = search (rules, place-fits)

pub returns-then-op-lt28 : goal.returns-then-op-lt28
returns-then-op-lt28 c = search (alike-beyond, rules)

pub beyond-requires-then-op-lt32 : goal.beyond-requires-then-op-lt32
beyond-requires-then-op-lt32 c = search (rules, place-fits)

pub returns-then-op-lt32 : goal.returns-then-op-lt32
returns-then-op-lt32 c = search (shifted-beyond, rules)

pub beyond-requires-then-near_end : goal.beyond-requires-then-near_end
beyond-requires-then-near_end c = search (rules, place-fits)

pub returns-then-near_end : goal.returns-then-near_end
returns-then-near_end c = search (compared-beyond, rules)

pub returns : goal.returns
returns c = search (none-beyond, width_room, result-room, second-room)
