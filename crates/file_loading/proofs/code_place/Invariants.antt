-- From core to core: a length and the code.
use Prim.Native.Nat.{◌+◌, ◌*◌, ◌≤◌}
use mathlib.Core.Path.{◌≡◌}
use Rattle.taskset.specs.Judge.{code_place}
use Rattle.file_loading.proofs.code_place.Given as goal

abbrev pub invariant-loop : goal.invariant-loop
invariant-loop l = (l.p ≡ code_place l.f l.counter) × (l.p ≤ 9000 + 66000 * l.counter)
