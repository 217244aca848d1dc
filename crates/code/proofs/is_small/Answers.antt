-- The test by the code byte is that of the types which the instruction names.
use mathlib.Core.Path.{sym, ap, ◌∙◌}
use mathlib.Core.Bool.{not}
use native.Mathlib.Omega.{arith}
use Rattle.code.proofs.Types.{types-low, types-time, type-inside, types-wide, types-both, types-one}
use Rattle.code.proofs.is_small.Goals as goal

pub returns-then-b-lt16 : goal.returns-then-b-lt16
returns-then-b-lt16 c = sym (types-low _ _ c.requires.1 c.if-b-lt16.true)

pub returns-then-inside : goal.returns-then-inside
returns-then-inside c = sym (types-time _ _ (sym c.inside.ensures ∙ c.if-inside.true))

pub bounds-code-p-2 : goal.bounds-code-p-2
bounds-code-p-2 c = omega (
  arith,
  type-inside c.args.code.now c.args.p c.requires.1 c.if-b-lt16.false
      (sym c.inside.ensures ∙ c.if-inside.false),
)

pub returns-then-is_wide : goal.returns-then-is_wide
returns-then-is_wide c = sym (types-wide _ _ c.requires.1 c.if-b-lt16.false (sym c.inside.ensures ∙ c.if-inside.false)
    (sym c.is_wide.ensures ∙ c.if-is_wide.true))

pub bounds-code-p-then-b-eq43 : goal.bounds-code-p-then-b-eq43
bounds-code-p-then-b-eq43 c = omega (
  arith,
  type-inside c.args.code.now c.args.p c.requires.1 c.if-b-lt16.false (sym c.inside.ensures ∙ c.if-inside.false),
)

pub returns-then-b-eq43 : goal.returns-then-b-eq43
returns-then-b-eq43 c = ap not c.is_wide-then-b-eq43.ensures
    ∙ sym (types-both _ _ c.requires.1 c.if-b-lt16.false (sym c.inside.ensures ∙ c.if-inside.false)
    (sym c.is_wide.ensures ∙ c.if-is_wide.false) c.if-b-eq43.true)

pub returns : goal.returns
returns c = sym (types-one _ _ c.requires.1 c.if-b-lt16.false (sym c.inside.ensures ∙ c.if-inside.false)
    (sym c.is_wide.ensures ∙ c.if-is_wide.false) c.if-b-eq43.false)
