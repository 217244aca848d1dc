-- `bounds::core_bounds` meets its contract: the lent part is the code of core k. Assumes nothing.
use mathlib.Core.Path.{subst}
use mathlib.Core.List.{List}
use Prim.Native.Nat.{ℕ}
use native.Mathlib.Omega.{arith}
use Rattle.taskset.proofs.Exact.{keeps-rules}
use Rattle.bounds.specs.Bounds.{FoundAs}
use Rattle.bounds.proofs.Answer.{core-in}
use Rattle.bounds.proofs.core_bounds.Goals as goal

pub offset_bounds-layout-k : goal.offset_bounds-layout-k
offset_bounds-layout-k c = omega (arith, c.requires.2, (keeps-rules c.args.file.now c.requires.0).most-cores)

pub bounds-layout-k : goal.bounds-layout-k
bounds-layout-k c = omega (arith, c.requires.2, (keeps-rules c.args.file.now c.requires.0).most-cores)

pub overflow_add-e : goal.overflow_add-e
overflow_add-e c = let core = core-in c.args.file.now _ c.args.k c.requires.0 c.requires.1 c.requires.2 in
    omega (arith, core.fits)

pub slice_bounds-bounds_in-end : goal.slice_bounds-bounds_in-end
slice_bounds-bounds_in-end c = let core = core-in c.args.file.now _ c.args.k c.requires.0 c.requires.1 c.requires.2 in
    omega (arith, core.fits)

pub bounds_in-requires : goal.bounds_in-requires
bounds_in-requires c = let core = core-in c.args.file.now _ c.args.k c.requires.0 c.requires.1 c.requires.2 in
    rw core.is (omega (arith, core.some, core.long), omega (arith, core.most, core.long), core.accepted)

pub returns : goal.returns
returns c = let core = core-in c.args.file.now _ c.args.k c.requires.0 c.requires.1 c.requires.2 in
    subst (λ (l : List ℕ). FoundAs l c.bounds_in.result) core.is c.bounds_in.ensures
