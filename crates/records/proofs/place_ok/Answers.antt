-- The three tests in the order of the definition.
use mathlib.Core.Path.{sym}
use borrow.Author.Tests.{le-ltb, lt-ltb, le-leb, lt-leb}
use Rattle.records.specs.Records.{place_ok}
use Rattle.records.proofs.place_ok.Goals as goal

pub returns-then-byte_at-k : goal.returns-then-byte_at-k
unfolding place_ok
returns-then-byte_at-k c = rw (sym c.byte_at.ensures, le-ltb _ _ c.if-byte_at-k.true)

pub returns-then-place-word_at : goal.returns-then-place-word_at
unfolding place_ok
returns-then-place-word_at c = rw (sym c.byte_at.ensures, lt-ltb _ _ c.if-byte_at-k.false, sym c.local_place-place.ensures, sym c.word_at.ensures.0, lt-leb _ _ c.if-place-word_at.true)

pub returns : goal.returns
unfolding place_ok
returns c = rw (
  sym c.byte_at.ensures,
  lt-ltb _ _ c.if-byte_at-k.false,
  sym c.local_place-place.ensures,
  sym c.word_at.ensures.0,
  le-leb _ _ c.if-place-word_at.false,
  sym c.width.ensures,
  sym c.word_at-2.ensures.0,
)
