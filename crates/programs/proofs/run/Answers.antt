-- What the judgement answered is what a cycle asks; the first n bytes of the array are n.
use mathlib.Core.Path.{◌≡◌, sym, ap, ◌∙◌}
use mathlib.Core.List.{List}
use Prim.Native.Nat.{ℕ, ◌≤◌}
use native.Mathlib.Omega.{arith}
use lib.ListN.{length, take, replicate, length-replicate}
use lib.Seq.{length-take-le}
use Rattle.memory.specs.Memory.{splice}
use Rattle.memory.proofs.Laws.{length-splice}
use Rattle.programs.proofs.run.Goals as goal

-- the first n of 4,096 bytes, after a copy into them
prefix : (n : ℕ) (l : List ℕ) (p : ℕ) (ys : List ℕ) → l ≡ splice (replicate 4096 0) p ys → n ≤ 4096 → n ≡ length (take n l)
prefix n l p ys e h =
    let k : length l ≡ 4096 = ap length e ∙ length-splice (replicate 4096 0) p ys ∙ length-replicate {A = ℕ} 4096 0 in
    sym (length-take-le n l (omega arith))

pub slice_bounds-report-end : goal.slice_bounds-report-end
slice_bounds-report-end g c = prefix _ _ _ _ c.copy.ensures c.if-n-gt4096.false
