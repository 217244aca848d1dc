-- `copies::rikzord_copy_by_bytes` meets its contract. Assumes nothing.
use mathlib.Core.Path.{sym, ◌∙◌}
use native.Mathlib.Omega.{arith}
use Rattle.memory.proofs.Words.{disjoint-by}
use Rattle.copies.proofs.Copies.{fitting, fit, unfit}
use Rattle.copies.proofs.rikzord_copy_by_bytes.Goals as goal

pub returns-then-not-fits : goal.returns-then-not-fits
returns-then-not-fits c = unfit _ _ _ _ (sym c.fits.ensures ∙ c.if-not-fits.true)

pub move_singly-requires : goal.move_singly-requires
move_singly-requires c = let l = fitting _ _ _ _ (sym c.fits.ensures ∙ c.if-not-fits.false) in
    (l.0, l.1, disjoint-by _ _ _ (omega (arith, c.abs_diff.ensures)))

pub move_through-requires : goal.move_through-requires
move_through-requires c = fitting _ _ _ _ (sym c.fits.ensures ∙ c.if-not-fits.false)

pub returns-then-n-abs_diff : goal.returns-then-n-abs_diff
returns-then-n-abs_diff c = fit _ _ _ _ _ (sym c.fits.ensures ∙ c.if-not-fits.false) c.move_singly.ensures

pub returns-else-n-abs_diff : goal.returns-else-n-abs_diff
returns-else-n-abs_diff c = fit _ _ _ _ _ (sym c.fits.ensures ∙ c.if-not-fits.false) c.move_through.ensures
