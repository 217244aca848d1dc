-- `listing::write_line` meets its contract, column by column. Assumes nothing.
use mathlib.Core.Path.{refl}
use native.Mathlib.Omega.{arith}
use Rattle.listing.specs.Listing.{core_line}
use Rattle.listing.proofs.Writing.{writing_start, writing_more, writing-last}
use Rattle.listing.proofs.write_line.Goals as goal

pub returns : goal.returns
unfolding core_line
returns c = let w = writing-last
    (writing_more _ _ (writing_more _ _ (writing_more _ _ (writing_more _ _ (writing_start _ _ (core_line c.args.k c.args.r))
    refl c.write_column-second.ensures.0 c.write_column-second.ensures.1)
    refl c.write_column-third.ensures.0 c.write_column-third.ensures.1)
    refl c.write_column-fourth.ensures.0 c.write_column-fourth.ensures.1)
    refl c.write_column-fifth.ensures.0 c.write_column-fifth.ensures.1)
    c.write_column.ensures.0 c.write_column.ensures.1 in
    (w.0, w.1, omega arith)
