-- `listing::write_number` meets its contract: the word, then the number. Assumes nothing.
use mathlib.Core.Path.{refl, ◌∙◌}
use native.Mathlib.Nat.{zero-add}
use Rattle.listing.specs.Listing.{refused_text}
use Rattle.listing.proofs.Writing.{writing_start, writing_more, writing-last}
use Rattle.listing.proofs.write_number.Goals as goal

pub returns : goal.returns
unfolding refused_text
returns c = let w = writing-last
    (writing_more _ _ (writing_start _ 0 (refused_text c.args.number)) refl c.write_text-at.ensures.0 c.write_text-at.ensures.1)
    c.write_column.ensures.0 c.write_column.ensures.1 in
    (w.0, w.1 ∙ zero-add _)
