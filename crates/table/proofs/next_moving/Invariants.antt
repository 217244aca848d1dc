-- The cores passed don't move; the first that does is the answer. Assumes nothing.
use Rattle.table.proofs.Scan.{Scanning}
use Rattle.table.proofs.next_moving.Given as goal

abbrev pub invariant-loop-i : goal.invariant-loop-i
invariant-loop-i l = Scanning l.file l.trace l.s l.given l.i
