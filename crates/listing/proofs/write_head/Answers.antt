-- `listing::write_head` meets its contract, piece by piece: 29 bytes, at most 4 lines of 30, and 5. Assumes nothing.
use mathlib.Core.Path.{refl, ◌∙◌}
use native.Mathlib.Nat.{zero-add}
use native.Mathlib.Omega.{arith}
use Rattle.listing.specs.Listing.{header, order_word, head}
use Rattle.listing.proofs.Writing.{writing_start, writing_more, writing-last}
use Rattle.listing.proofs.write_head.Goals as goal

pub returns : goal.returns
unfolding head header order_word
returns c = let a = c.args in
    let w = writing-last
    (writing_more _ _ (writing_more _ _
    (writing_start _ 0 (head a.n a.s))
    refl c.write_text-lines.ensures.0 c.write_text-lines.ensures.1)
    refl c.write_lines-order.ensures.0 c.write_lines-order.ensures.1)
    c.write_text.ensures.0 c.write_text.ensures.1 in
    (w.0, w.1 ∙ zero-add _, omega arith)
