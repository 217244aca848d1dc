-- `rerun::rerun_judged` meets its contract: arrays of its own have room. Assumes nothing.
use mathlib.Core.Path.{sym, ◌∙◌}
use lib.ListN.{length}
use Rattle.rerun.proofs.Turns.{lent-lengths}
use Rattle.rerun.proofs.Ends.{prefix}
use Rattle.rerun.proofs.rerun_judged.Goals as goal

pub sum_of_sizes-size-requires : goal.sum_of_sizes-size-requires
sum_of_sizes-size-requires c = (c.requires.accepted.file, c.requires.laid)

pub slice_bounds-rerun_through-end : goal.slice_bounds-rerun_through-end
slice_bounds-rerun_through-end c = prefix _ 16384 c.sum_of_sizes-size.ensures.1

pub rerun_through-requires : goal.rerun_through-requires
rerun_through-requires c = let a = c.args in (
  c.requires,
  sym (prefix _ 16384 c.sum_of_sizes-size.ensures.1)
      ∙ c.sum_of_sizes-size.ensures.0 ∙ sym
      (lent-lengths a.file.now (length a.buffer.now) (length a.shared.now) c.requires.fits).0,
  sym (lent-lengths a.file.now (length a.buffer.now) (length a.shared.now) c.requires.fits).1,
)

pub returns : goal.returns
returns c = c.rerun_through.ensures
