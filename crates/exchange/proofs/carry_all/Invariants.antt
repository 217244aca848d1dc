-- `exchange::carry_all` meets its contract. The invariant: the bytes of the records before the place are copied. Assumes nothing.
use Rattle.exchange.proofs.Carrying.{CarriedTo}
use Rattle.exchange.proofs.carry_all.Given as goal

abbrev pub invariant-loop-place : goal.invariant-loop-place
invariant-loop-place l = CarriedTo l.file l.bit l.source l.target l.src l.initial.dst l.place l.dst
