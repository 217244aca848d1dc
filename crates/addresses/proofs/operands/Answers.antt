-- `addresses::operands` meets its contract. Each place is that of its address; where none is absolute, by one sum. Assumes nothing.
use Rattle.std.proofs.Common.{arith}
use Rattle.processor.proofs.Inside.{relative-operands}
use Rattle.addresses.proofs.operands.Goals as goal

pub returns-then-to-first : goal.returns-then-to-first
returns-then-to-first c = relative-operands _ c.args.r c.word-to.ensures c.word-first.ensures c.word-second.ensures c.if-to-first.true (omega arith)

pub returns : goal.returns
returns c = let first = c.place.ensures in
    let second = c.place-2.ensures in
    let third = c.place-3.ensures in
    (rw (first.0, second.0, third.0, c.word-to.ensures, c.word-first.ensures, c.word-second.ensures), (first.1, second.1, third.1))
