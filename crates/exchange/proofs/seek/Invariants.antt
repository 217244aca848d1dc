-- `exchange::seek` meets its contract. The invariant: no record up to the place has the bit. Assumes nothing.
use Rattle.exchange.specs.Laid.{Passed}
use Rattle.exchange.proofs.seek.Given as goal

abbrev pub invariant-loop-place : goal.invariant-loop-place
invariant-loop-place l = Passed l.file l.bit l.from l.place
