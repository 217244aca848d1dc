-- `Laying`: what is left to judge is what was asked, and the marks are the starts that were passed and the targets that were not.
use mathlib.Core.Path.{sym, ap, ◌∙◌}
use mathlib.Core.Bool.{Bool}
use native.Mathlib.Omega.{arith}
use Rattle.verdict.specs.Verdict.{either}
use Rattle.code.proofs.Laws.{whole, carried-not, length_taken, length-refused}
use Rattle.code.proofs.Laying.{laying-none, asked-size, laying-more, laying-end, laying-stop}
use Rattle.code_judging.proofs.lay.Goals as goal
use Rattle.code_judging.proofs.lay.Goals.{then-ask_target, else-ask_target}

pub loop-p-init : goal.loop-p-init
loop-p-init c = laying-none _ _ _ c.requires.2

pub accepted_length-n-requires : goal.accepted_length-n-requires
accepted_length-n-requires c = c.loop-p-test.true

pub shape_of-marks-then-n-eq0 : goal.shape_of-marks-then-n-eq0
shape_of-marks-then-n-eq0 c = c.loop-p.invariant.size

pub returns-then-n-eq0 : goal.returns-then-n-eq0
returns-then-n-eq0 c = laying-stop _ _ _ _ 6 _ _ c.loop-p.invariant c.loop-p-test.true (length-refused _ _ _ _ c.accepted_length-n.ensures c.if-n-eq0.true) (λ z. let y : ⊥ = omega arith in y) _ _ _ c.loop-p.invariant.size

pub ask_target-requires : goal.ask_target-requires
ask_target-requires c = (c.loop-p-test.true, (whole c.args.code.now c.loop-p.p (length_taken _ _ _ c.accepted_length-n.ensures c.if-n-eq0.false).0).fixed)

pub is_carried-requires : goal.is_carried-requires
is_carried-requires c = (c.loop-p-test.true, (length_taken _ _ _ c.accepted_length-n.ensures c.if-n-eq0.false).0)

pub shape_of-marks-then-not-is_carried : goal.shape_of-marks-then-not-is_carried
shape_of-marks-then-not-is_carried c = asked-size _ _ _ _ _ c.ask_target.ensures ∙ c.loop-p.invariant.size

pub returns-then-not-is_carried : goal.returns-then-not-is_carried
returns-then-not-is_carried c = laying-stop _ _ _ _ 27 _ _ c.loop-p.invariant c.loop-p-test.true
    (carried-not _ _ _ (length_taken _ _ _ c.accepted_length-n.ensures c.if-n-eq0.false).0 (sym c.is_carried.ensures ∙ c.if-not-is_carried.true)) (λ z. let y : ⊥ = omega arith in y) _ _ _
    (asked-size _ _ _ _ _ c.ask_target.ensures ∙ c.loop-p.invariant.size)

pub bounds-marks-p : goal.bounds-marks-p
bounds-marks-p c = omega (arith, asked-size _ _ _ _ _ c.ask_target.ensures, c.loop-p.invariant.size, c.loop-p-test.true, c.requires.1)

pub overflow_add-p : goal.overflow_add-p
overflow_add-p c = let taken = length_taken _ _ _ c.accepted_length-n.ensures c.if-n-eq0.false in
    omega (arith, taken.1, whole c.args.code.now c.loop-p.p taken.0, c.requires.0)

pub loop-p-smaller : goal.loop-p-smaller
loop-p-smaller c = let taken = length_taken _ _ _ c.accepted_length-n.ensures c.if-n-eq0.false in
    omega (arith, taken.1, whole c.args.code.now c.loop-p.p taken.0)

pub shape_of-marks : goal.shape_of-marks
shape_of-marks c = c.loop-p.invariant.size

pub returns : goal.returns
returns c = laying-end _ _ _ _ _ _ c.loop-p.invariant c.loop-p-test.false

pub loop-p-preserved : goal.loop-p-preserved
loop-p-preserved c = let outside = c.loop-p.outside in
    laying-more _ _ _ _ _ _ c.requires.1 c.loop-p.invariant c.loop-p-test.true
    _ c.accepted_length-n.ensures c.if-n-eq0.false (sym c.is_carried.ensures ∙ c.if-not-is_carried.false) _ _ c.ask_target.ensures _
    (elim c.if-ask_target.branch [ then-ask_target w ↦ w.outside-is ∙ ap (λ (x : Bool). either x outside) (sym w.if-ask_target.true) | else-ask_target w ↦ w.outside-is ∙ ap (λ (x : Bool). either x outside) (sym w.if-ask_target.false) ])
