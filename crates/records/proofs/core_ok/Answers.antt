-- The four tests in the order of the definition.
use mathlib.Core.Path.{sym}
use borrow.Author.Tests.{le-leb, lt-leb}
use Rattle.records.specs.Records.{core_ok}
use Rattle.records.proofs.core_ok.Goals as goal

pub returns-then-size-lt1 : goal.returns-then-size-lt1
unfolding core_ok
returns-then-size-lt1 c = rw (sym c.word_at-size.ensures.0, lt-leb _ _ c.if-size-lt1.true)

pub returns-then-most_data-size : goal.returns-then-most_data-size
unfolding core_ok
returns-then-most_data-size c = rw (sym c.word_at-size.ensures.0, le-leb _ _ c.if-size-lt1.false, sym c.most_data.ensures, lt-leb _ _ c.if-most_data-size.true)

pub returns-then-size-word_at : goal.returns-then-size-word_at
unfolding core_ok
returns-then-size-word_at c = rw (
  sym c.word_at-size.ensures.0,
  le-leb _ _ c.if-size-lt1.false,
  sym c.most_data.ensures,
  le-leb _ _ c.if-most_data-size.false,
  sym c.word_at.ensures.0,
  lt-leb _ _ c.if-size-word_at.true,
)

pub returns : goal.returns
unfolding core_ok
returns c = rw (
  sym c.word_at-size.ensures.0,
  le-leb _ _ c.if-size-lt1.false,
  sym c.most_data.ensures,
  le-leb _ _ c.if-most_data-size.false,
  sym c.word_at.ensures.0,
  le-leb _ _ c.if-size-word_at.false,
  sym c.word_at-2.ensures.0,
)
