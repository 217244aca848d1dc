-- The tests in the order of the definition.
use mathlib.Core.Path.{sym, ap, ◌∙◌}
use Prim.Native.Nat.{◌+◌}
use native.Mathlib.Omega.{arith}
use borrow.Author.Tests.{le-leb, lt-leb}
use Rattle.memory.specs.Memory.{byte, word}
use Rattle.code.specs.Code.{is_width}
use Rattle.records.specs.Records.{variable_ok}
use Rattle.records.proofs.variable_ok.Goals as goal

pub returns-then-not-is_width : goal.returns-then-not-is_width
unfolding variable_ok
returns-then-not-is_width c = rw (ap is_width (sym c.width-w.ensures) ∙ sym c.is_width.ensures ∙ c.if-not-is_width.true)

pub returns-then-not-one_writer : goal.returns-then-not-one_writer
unfolding variable_ok
returns-then-not-one_writer c = rw (ap is_width (sym c.width-w.ensures) ∙ sym c.is_width.ensures ∙ c.if-not-is_width.false, sym c.one_writer.ensures ∙ c.if-not-one_writer.true)

pub returns-then-shared_place-w-gt1024 : goal.returns-then-shared_place-w-gt1024
unfolding variable_ok
returns-then-shared_place-w-gt1024 c = let f = c.args.f.now in
    rw (
      ap is_width (sym c.width-w.ensures) ∙ sym c.is_width.ensures ∙ c.if-not-is_width.false,
      sym c.one_writer.ensures ∙ c.if-not-one_writer.false,
      lt-leb (word f c.args.p + byte f (c.args.p + 2)) 1024
          (omega (arith, c.shared_place.ensures, c.width-w.ensures, c.if-shared_place-w-gt1024.true)),
    )

pub returns : goal.returns
unfolding variable_ok
returns c = let f = c.args.f.now in
    rw (
      ap is_width (sym c.width-w.ensures) ∙ sym c.is_width.ensures ∙ c.if-not-is_width.false,
      sym c.one_writer.ensures ∙ c.if-not-one_writer.false,
      le-leb (word f c.args.p + byte f (c.args.p + 2)) 1024
          (omega (arith, c.shared_place.ensures, c.width-w.ensures, c.if-shared_place-w-gt1024.false)),
    ) c.parts_ok.ensures
