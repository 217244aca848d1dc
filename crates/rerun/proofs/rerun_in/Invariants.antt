-- `rerun::rerun_in` meets its contract. The invariant: the takings so far are legal, and made the state now. Assumes nothing.
use Rattle.rerun.specs.Rerunning.{Rerunning}
use Rattle.rerun.proofs.rerun_in.Given as goal

abbrev pub invariant-loop-item : goal.invariant-loop-item
invariant-loop-item l = Rerunning l.file l.trace l.list l.s l.item-index l.cores l.places l.offsets l.buffer l.shared
