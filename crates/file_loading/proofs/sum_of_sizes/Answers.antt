-- `file_loading::sum_of_sizes` meets its contract: absent cores have size 0. Assumes nothing.
use native.Mathlib.Omega.{arith}
use Rattle.taskset.proofs.Exact.{keeps-rules}
use Rattle.taskset.proofs.Sizes.{sizes-added, size_small}
use Rattle.file_loading.proofs.sum_of_sizes.Goals as goal

pub overflow_add-result : goal.overflow_add-result
overflow_add-result c = rw c.requires.1 (omega (arith, size_small c.args.f.now c.requires.0 0, size_small c.args.f.now c.requires.0 1))

pub overflow_add-result-2 : goal.overflow_add-result-2
overflow_add-result-2 c = rw c.requires.1 (omega (arith, size_small c.args.f.now c.requires.0 0, size_small c.args.f.now c.requires.0 1, size_small c.args.f.now c.requires.0 2))

pub overflow_add-result-3 : goal.overflow_add-result-3
overflow_add-result-3 c = rw c.requires.1 (omega (arith, size_small c.args.f.now c.requires.0 0, size_small c.args.f.now c.requires.0 1, size_small c.args.f.now c.requires.0 2, size_small c.args.f.now c.requires.0 3))

pub returns : goal.returns
returns c = let f = c.args.f.now in
    rw c.requires.1 (
      sizes-added f (keeps-rules f c.requires.0).most-cores,
      omega (arith, size_small f c.requires.0 0, size_small f c.requires.0 1, size_small f c.requires.0 2, size_small f c.requires.0 3),
    )
