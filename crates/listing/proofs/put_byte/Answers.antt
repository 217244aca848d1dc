-- `listing::put_byte` meets its contract. Past the end a write is dropped on both sides.
-- Assumes nothing.
use mathlib.Core.Path.{refl, ap, ◌∙◌}
use lib.ListN.{length, length-set}
use Rattle.listing.proofs.Writing.{one_byte, one-byte-set}
use Rattle.listing.proofs.put_byte.Goals as goal
use Rattle.listing.proofs.put_byte.Goals.{then-at-out, else-at-out}

pub shape_of-out : goal.shape_of-out
shape_of-out c = elim c.if-at-out.branch [ then-at-out w ↦ ap length w.out-is ∙ simp length-set | else-at-out w ↦ ap length w.out-is ]

pub returns : goal.returns
returns c = (elim c.if-at-out.branch [ then-at-out w ↦ w.out-is ∙ one-byte-set _ _ _ | else-at-out w ↦ w.out-is ∙ one_byte _ _ _ w.if-at-out.false ], refl)
