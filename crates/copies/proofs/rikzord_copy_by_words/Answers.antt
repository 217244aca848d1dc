-- `copies::rikzord_copy_by_words` meets its contract. Assumes nothing.
use mathlib.Core.Path.{sym, ◌∙◌}
use Rattle.copies.proofs.Copies.{fitting, fit, unfit}
use Rattle.copies.proofs.rikzord_copy_by_words.Goals as goal

pub returns-then-not-fits : goal.returns-then-not-fits
returns-then-not-fits c = unfit _ _ _ _ (sym c.fits.ensures ∙ c.if-not-fits.true)

pub copy_within-requires : goal.copy_within-requires
copy_within-requires c = fitting _ _ _ _ (sym c.fits.ensures ∙ c.if-not-fits.false)

pub returns : goal.returns
returns c = fit _ _ _ _ _ (sym c.fits.ensures ∙ c.if-not-fits.false) c.copy_within.ensures
