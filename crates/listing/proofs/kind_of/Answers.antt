-- `listing::kind_of` meets its contract, by its test. Assumes nothing.
use mathlib.Core.Path.{sym}
use borrow.Author.Tests.{lt-ltb, le-ltb}
use Rattle.verdict.proofs.Verdict.{pick_true, pick-false}
use Rattle.listing.specs.Listing.{kind_letter}
use Rattle.listing.proofs.kind_of.Goals as goal

pub returns-then-byte-lt-FIRST_WRITING : goal.returns-then-byte-lt-FIRST_WRITING
unfolding kind_letter
returns-then-byte-lt-FIRST_WRITING c = sym (pick_true _ _ _ (lt-ltb _ _ c.if-byte-lt-FIRST_WRITING.true))

pub returns-else-byte-lt-FIRST_WRITING : goal.returns-else-byte-lt-FIRST_WRITING
unfolding kind_letter
returns-else-byte-lt-FIRST_WRITING c = sym (pick-false _ _ _ (le-ltb _ _ c.if-byte-lt-FIRST_WRITING.false))
