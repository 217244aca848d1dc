-- `listing::write_long` meets its contract: five bytes, or 21. Assumes nothing.
use native.Mathlib.Omega.{arith}
use Rattle.listing.specs.Listing.{long_text}
use Rattle.listing.proofs.Answers.{text-short, text-written}
use Rattle.listing.proofs.write_long.Goals as goal

pub returns-then-out-lt5 : goal.returns-then-out-lt5
unfolding long_text
returns-then-out-lt5 c = text-short long_text c.args.out.now (omega arith)

pub returns : goal.returns
unfolding long_text
returns c = text-written long_text c.args.out.now (omega (arith, c.if-out-lt5.false)) c.write_text.ensures.1 c.write_text.ensures.0
