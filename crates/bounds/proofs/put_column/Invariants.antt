-- `bounds::put_column` meets its contract. The loop's invariant: the first i numbers stand at the front. Assumes nothing.
use mathlib.Core.Path.{◌≡◌}
use Rattle.memory.specs.Memory.{splice, part}
use Rattle.bounds.proofs.put_column.Given as goal

abbrev pub invariant-loop-i : goal.invariant-loop-i
invariant-loop-i l = l.places ≡ splice l.initial.places 0 (part l.column 0 l.i)
