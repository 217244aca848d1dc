-- `cycles::reads_from` meets its contract. The invariant: none of the variables so far is such a one. Assumes nothing.
use mathlib.Core.Path.{◌≡◌}
use Rattle.records.specs.File.{count_place, variables}
use Rattle.cycles.proofs.Check.{NoneBefore}
use Rattle.cycles.proofs.reads_from.Given as goal

abbrev pub invariant-loop-i : goal.invariant-loop-i
invariant-loop-i l = (l.at ≡ count_place l.file) × (l.n ≡ variables l.file) × NoneBefore l.file l.r l.w l.i
