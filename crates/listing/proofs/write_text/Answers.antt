-- `listing::write_text` meets its contract. The invariant: what is left of the text is still to be written.
-- Assumes nothing.
use Prim.Native.Nat.{◌+◌, ◌<◌}
use mathlib.Core.List.{[], ◌∷◌}
use native.Mathlib.Omega.{arith}
use lib.ListN.{length, drop, get_or, drop_of_length-le}
use Rattle.listing.proofs.Writing.{writing_start, writing_more, writing-end, one_of}
use Rattle.listing.proofs.write_text.Goals as goal

pub loop-byte-init : goal.loop-byte-init
loop-byte-init c = (omega arith, writing_start _ _ _)

pub loop-byte-preserved : goal.loop-byte-preserved
loop-byte-preserved c = (
  omega arith,
  let text = c.args.text.now in
      let h : c.loop-byte.byte-index < length text = omega arith in
      writing_more (get_or text c.loop-byte.byte-index 0 ∷ []) (drop (c.loop-byte.byte-index + 1) text)
      c.loop-byte.invariant.1 (one_of text c.loop-byte.byte-index 0 h) c.put_byte-next.ensures.0 c.put_byte-next.ensures.1,
)

pub returns : goal.returns
returns c = writing-end c.loop-byte.invariant.1 (drop_of_length-le c.args.text.now {i = c.loop-byte.byte-index} (omega arith))
