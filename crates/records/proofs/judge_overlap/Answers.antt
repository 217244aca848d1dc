-- What is left from variable j on is what was asked; the records lie in the file.
use mathlib.Core.Path.{sym, ◌∙◌}
use native.Mathlib.Omega.{arith}
use Rattle.verdict.proofs.Verdict.{going-none, going_more, going-stop, going_end}
use Rattle.records.specs.Records.{overlap_refusal}
use Rattle.records.proofs.Laws.{pair-five, pair-none}
use Rattle.records.proofs.judge_overlap.Goals as goal

pub loop-j-init : goal.loop-j-init
loop-j-init c = going-none _ _ _

pub overlapping-requires : goal.overlapping-requires
overlapping-requires c = (omega (arith, c.record_place-p.ensures.0, c.requires), omega (arith, c.record_place.ensures.0, c.loop-j-test.true, c.requires))

pub returns-then-overlapping : goal.returns-then-overlapping
unfolding overlap_refusal
returns-then-overlapping c = going-stop _ _ _ _ 5 c.loop-j.invariant (omega (arith, c.requires.1))
    (pair-five _ _ _ _ _ c.record_place-p.ensures.0 c.record_place.ensures.0
    (sym c.overlapping.ensures ∙ c.if-overlapping.true)) (λ z. let y : ⊥ = omega arith in y)

pub loop-j-preserved : goal.loop-j-preserved
loop-j-preserved c = going_more _ _ _ _ c.loop-j.invariant (omega (arith, c.requires.1))
    (pair-none _ _ _ _ _ c.record_place-p.ensures.0 c.record_place.ensures.0
    (sym c.overlapping.ensures ∙ c.if-overlapping.false))

pub returns : goal.returns
unfolding overlap_refusal
returns c = going_end _ _ _ _ c.loop-j.invariant (omega (arith, c.requires.1))
