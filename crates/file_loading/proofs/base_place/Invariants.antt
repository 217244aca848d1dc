-- The sizes before core i are added up.
use Prim.Native.Nat.{◌*◌, ◌≤◌}
use mathlib.Core.Path.{◌≡◌}
use Rattle.taskset.specs.Layout.{base_place}
use Rattle.file_loading.proofs.base_place.Given as goal

abbrev pub invariant-loop-i : goal.invariant-loop-i
invariant-loop-i l = (l.b ≡ base_place l.f l.i) × (l.b ≤ 65536 * l.i)
