-- `machine::all_below` meets its contract. The invariant: the largest byte so far and what is left of the order are judged as the whole is.
-- Assumes nothing.
use mathlib.Core.Path.{◌≡◌}
use Prim.Native.Nat.{◌<◌}
use lib.Dec.{ltb}
use lib.ListN.{length, drop}
use Rattle.verdict.specs.Verdict.{both}
use Rattle.runner.specs.Runs.{all_below}
use Rattle.machine.proofs.judging.all_below.Given as goal

abbrev pub invariant-loop-core : goal.invariant-loop-core
invariant-loop-core l = (l.most < 256) × (0 < length l.order → both (ltb l.most l.n) (all_below l.n (drop l.core-index l.order)) ≡ all_below l.n l.order)
