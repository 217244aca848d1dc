-- `beyond::single_beyond` meets its contract. Away from the end no operand is beyond (`none-beyond`); near it the width decides. Assumes nothing.
use borrow.Author.Rules.{rules}
use Rattle.values.proofs.Commands.{width_room}
use Rattle.commands.proofs.Attempts.{place-fits}
use Rattle.commands.proofs.Known.{none-beyond, of-widths}
use Rattle.beyond.proofs.single_beyond.Goals as goal

pub beyond-requires : goal.beyond-requires
beyond-requires c = search (rules, place-fits)

pub returns-then-near_end : goal.returns-then-near_end
returns-then-near_end c = search of-widths

pub returns : goal.returns
returns c = search (none-beyond, width_room, rules)
