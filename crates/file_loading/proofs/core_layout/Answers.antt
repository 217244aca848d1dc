-- Zeros past the last core, else what stands in the file.
use mathlib.Core.Path.{sym, ◌∙◌}
use borrow.Author.Tests.{lt-ltb, le-ltb}
use Rattle.verdict.specs.Verdict.{pick}
use Rattle.taskset.specs.Layout.{core_layout}
use Rattle.file_loading.proofs.core_layout.Goals as goal

pub returns-then-byte_at-k : goal.returns-then-byte_at-k
unfolding core_layout pick
returns-then-byte_at-k c = c.no_core.ensures ∙ rw (sym c.byte_at.ensures, le-ltb _ _ c.if-byte_at-k.true)

pub returns : goal.returns
unfolding core_layout pick
returns c = rw (
  sym c.word_at.ensures.0,
  sym c.word_at-2.ensures.0,
  sym c.word_at-3.ensures.0,
  sym c.base_place.ensures,
  sym c.code_place-p.ensures.0,
  sym c.word_at-4.ensures.0,
  sym c.byte_at.ensures,
  lt-ltb _ _ c.if-byte_at-k.false,
)
