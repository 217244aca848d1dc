-- `beyond::near_end` meets its contract. The first operand that has less than eight bytes decides (`nearness`). Assumes nothing.
use Rattle.commands.proofs.Known.{nearness}
use Rattle.beyond.proofs.near_end.Goals as goal

pub returns-then-places-o : goal.returns-then-places-o
returns-then-places-o c = search nearness

pub returns-then-places-o-2 : goal.returns-then-places-o-2
returns-then-places-o-2 c = search nearness

pub returns-then-places-o-3 : goal.returns-then-places-o-3
returns-then-places-o-3 c = search nearness

pub returns : goal.returns
returns c = search nearness
