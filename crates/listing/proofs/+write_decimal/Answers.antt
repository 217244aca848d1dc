-- A number's last digit stands after those of a tenth of it. Assumes nothing.
use Rattle.std.proofs.Common.{arith}
use Rattle.listing.proofs.Numbers.{written_small, written-large}
use Rattle.listing.proofs.+write_decimal.Goals as goal

pub returns-then-value-lt10 : goal.returns-then-value-lt10
returns-then-value-lt10 t c = written_small _ _ _ _ _ c.if-value-lt10.true c.put_byte.ensures.0 c.put_byte.ensures.1

pub returns : goal.returns
returns t c =
    written-large _ _ _ _ _ _ _ (omega (arith, c.ranges.value)) c.if-value-lt10.false
    c.write_decimal-last.ensures.0 c.write_decimal-last.ensures.1 c.put_byte-2.ensures.0 c.put_byte-2.ensures.1
