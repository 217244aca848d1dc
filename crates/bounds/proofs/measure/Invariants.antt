-- `bounds::measure` meets its contract. The loop's invariant, `Passing`: what is known of the places from p on. Assumes nothing.
use Rattle.bounds.proofs.Back.{Passing}
use Rattle.bounds.proofs.measure.Given as goal

abbrev pub invariant-loop-p : goal.invariant-loop-p
invariant-loop-p l = Passing l.code l.starts l.p l.counts l.depths l.count l.depth
