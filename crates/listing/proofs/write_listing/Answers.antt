-- `listing::write_listing` meets its contract: what comes before the takings is measured, each taking has three bytes, and a line feed ends it.
-- Assumes nothing.
use mathlib.Core.Path.{refl, sym, ◌∙◌}
use native.Mathlib.Nat.{zero-add}
use native.Mathlib.Omega.{arith}
use lib.ListN.{take}
use Rattle.listing.specs.Listing.{listing}
use Rattle.listing.proofs.Writing.{writing_start, writing_more, writing-last}
use Rattle.listing.proofs.Answers.{text-short, text-written, listing-head, length-listing}
use Rattle.listing.proofs.write_listing.Goals as goal

pub returns-then-out-before : goal.returns-then-out-before
returns-then-out-before c = let a = c.args in
    text-short (listing a.n a.s (take a.taken a.list.now)) a.out.now
    (omega (arith, length-listing a.n a.s a.list.now a.taken, c.write_head-before.ensures.1, c.if-out-before.true))

pub returns-then-out-before-2 : goal.returns-then-out-before-2
returns-then-out-before-2 c = let a = c.args in
    text-short (listing a.n a.s (take a.taken a.list.now)) a.out.now
    (omega (arith, length-listing a.n a.s a.list.now a.taken, c.write_head-before.ensures.1, c.if-out-before.false, c.min-takings.ensures, c.if-out-before-2.true))

pub write_takings-end-requires : goal.write_takings-end-requires
write_takings-end-requires c = omega (arith, c.well_formed, c.write_head-before.ensures.1, c.write_head-from.ensures.1, c.if-out-before.false, c.min-takings.ensures, c.if-out-before-2.false)

pub put_byte-requires : goal.put_byte-requires
put_byte-requires c = omega (arith, c.well_formed, c.write_takings-end.ensures.2, c.write_head-before.ensures.1, c.write_head-from.ensures.1, c.if-out-before.false, c.min-takings.ensures, c.if-out-before-2.false)

pub returns : goal.returns
returns c = let a = c.args in
    let l = take a.taken a.list.now in
    let w = writing-last
    (writing_more _ _ (writing_more _ _
    (writing_start _ 0 (listing a.n a.s l))
    (listing-head a.n a.s l) c.write_head-from.ensures.0 (c.write_head-from.ensures.1 ∙ sym (zero-add _)))
    refl c.write_takings-end.ensures.0 c.write_takings-end.ensures.1)
    c.put_byte.ensures.0 c.put_byte.ensures.1 in
    text-written (listing a.n a.s l) a.out.now
    (omega (arith, length-listing a.n a.s a.list.now a.taken, c.write_head-before.ensures.1, c.if-out-before.false, c.min-takings.ensures, c.if-out-before-2.false))
    (w.1 ∙ zero-add _) w.0
