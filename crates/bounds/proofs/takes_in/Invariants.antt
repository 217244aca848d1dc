-- `bounds::takes_in` meets its contract. The loop's invariant, `Counted`: no core below k is refused, and their numbers are found. Assumes nothing.
use Rattle.bounds.proofs.Answer.{Counted}
use Rattle.bounds.proofs.takes_in.Given as goal

abbrev pub invariant-loop-k : goal.invariant-loop-k
invariant-loop-k l = Counted l.file l.k l.count l.depth
