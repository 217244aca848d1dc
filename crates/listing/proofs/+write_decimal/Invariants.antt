-- A number's last digit stands after those of a tenth of it, which is smaller. Assumes nothing.
use Rattle.listing.proofs.+write_decimal.Given as goal

abbrev pub decreases-write_decimal : goal.decreases-write_decimal
decreases-write_decimal l = l.value
