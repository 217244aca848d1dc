-- `listing::write_column` meets its contract: the number, then the byte. Assumes nothing.
use mathlib.Core.Path.{refl}
use mathlib.Core.List.{[], ◌∷◌}
use native.Mathlib.Omega.{arith}
use Rattle.listing.specs.Listing.{decimal, column}
use Rattle.listing.proofs.Writing.{writing_start, writing_more, writing-last}
use Rattle.listing.proofs.write_column.Goals as goal

pub returns : goal.returns
unfolding column
returns c = let w = writing-last
    (writing_more (decimal c.args.value) (c.args.end ∷ []) (writing_start _ _ (column c.args.value c.args.end))
    refl c.write_decimal-next.ensures.0 c.write_decimal-next.ensures.1)
    c.put_byte.ensures.0 c.put_byte.ensures.1 in
    (w.0, w.1, omega arith)
