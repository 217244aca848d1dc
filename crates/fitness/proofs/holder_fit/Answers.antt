-- By the mode.
use Prim.Native.Nat.{◌+◌}
use borrow.Author.Tests.{eq-eqb, ne_eqb}
use lib.Dec.{eqb}
use Rattle.states.specs.Fit.{holder_fit}
use Rattle.states.proofs.Says.{agree-not}
use Rattle.fitness.proofs.holder_fit.Goals as goal

pub returns-then-r-eq-READING : goal.returns-then-r-eq-READING
unfolding holder_fit
returns-then-r-eq-READING c = rw (eq-eqb _ _ c.if-r-eq-READING.true)

pub returns-then-r-eq-WRITING : goal.returns-then-r-eq-WRITING
unfolding holder_fit
returns-then-r-eq-WRITING c = rw (ne_eqb _ _ c.if-r-eq-READING.false, eq-eqb _ _ c.if-r-eq-WRITING.true)

pub returns : goal.returns
unfolding holder_fit
returns c = rw (ne_eqb _ _ c.if-r-eq-READING.false, ne_eqb _ _ c.if-r-eq-WRITING.false) (agree-not (eqb c.args.holder (c.args.k + 1)))
