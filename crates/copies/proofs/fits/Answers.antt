-- `copies::fits` meets its contract. Assumes nothing.
use native.Mathlib.Omega.{arith}
use Rattle.copies.proofs.Copies.{too_many, too_long_lem, by-source}
use Rattle.copies.proofs.fits.Goals as goal

pub returns-then-n-gt-LARGEST_DATA : goal.returns-then-n-gt-LARGEST_DATA
returns-then-n-gt-LARGEST_DATA c = too_many _ _ _ _ (omega arith)

pub returns-then-size-n : goal.returns-then-size-n
returns-then-size-n c = too_long_lem _ _ _ _ (omega arith) (omega arith)

pub returns-then-size-n-2 : goal.returns-then-size-n-2
returns-then-size-n-2 c = too_long_lem _ _ _ _ (omega arith) (omega arith)

pub returns : goal.returns
returns c = by-source _ _ _ _ (omega arith) (omega arith)
