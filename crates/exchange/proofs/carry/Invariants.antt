-- `exchange::carry` meets its contract. The invariant: the bytes before the cursor are copied, `left` are to come. Assumes nothing.
use Rattle.exchange.proofs.Carrying.{UnderWay}
use Rattle.exchange.proofs.carry.Given as goal

abbrev pub invariant-loop-left : goal.invariant-loop-left
invariant-loop-left l = UnderWay l.file l.bit l.source l.target l.x l.count l.src l.initial.dst l.left record { «record» = l.place; byte = l.byte } l.dst

abbrev pub decreases-loop-left : goal.decreases-loop-left
decreases-loop-left l = l.left
