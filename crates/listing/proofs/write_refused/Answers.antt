-- `listing::write_refused` meets its contract: the text is measured, then written, or 21. Assumes nothing.
use native.Mathlib.Omega.{arith}
use Rattle.listing.specs.Listing.{refused_text}
use Rattle.listing.proofs.Answers.{text-short, text-written}
use Rattle.listing.proofs.write_refused.Goals as goal

pub returns-then-out-write_number : goal.returns-then-out-write_number
returns-then-out-write_number c = let a = c.args in
    text-short (refused_text a.number) a.out.now (omega (arith, c.write_number.ensures.1, c.if-out-write_number.true))

pub returns : goal.returns
returns c = let a = c.args in
    text-written (refused_text a.number) a.out.now (omega (arith, c.write_number.ensures.1, c.if-out-write_number.false)) c.write_number-2.ensures.1 c.write_number-2.ensures.0
