-- `Pairs`: what is left from number i on is what was asked, and `least` is what its place must reach.
use native.Mathlib.Omega.{arith}
use borrow.Author.Tests.{lt-leb}
use Rattle.verdict.proofs.Verdict.{halt, no}
use Rattle.taskset.specs.Judge.{pairs_refusal}
use Rattle.taskset.proofs.Laws.{pairs-none, pairs-more, pair-cut, pair-beyond, pair-falls, pair-fine, pairs-stop, pairs_end}
use Rattle.file_judging.proofs.refusals.judge_pairs.Goals as goal

pub returns-then-f-first : goal.returns-then-f-first
unfolding pairs_refusal
returns-then-f-first c = halt 0 _ (no _ _ (lt-leb _ _ c.if-f-first.true))

pub loop-i-init : goal.loop-i-init
loop-i-init c = pairs-none _ _ _ _

pub overflow_mul-at : goal.overflow_mul-at
overflow_mul-at c = omega (arith, c.word_at-n.ensures.1)

pub overflow_add-at : goal.overflow_add-at
overflow_add-at c = omega (arith, c.word_at-n.ensures.1)

pub overflow_add-at-in-loop-i : goal.overflow_add-at-in-loop-i
overflow_add-at-in-loop-i c = omega (arith, c.word_at-n.ensures.1)

pub returns-then-f-at : goal.returns-then-f-at
returns-then-f-at c = pairs-stop _ _ _ _ _ _ c.if-f-first.false c.word_at-n.ensures.0 c.loop-i.invariant 1 c.loop-i-test.true (pair-cut _ _ _ _ c.if-f-at.true) (λ e. absurd (let y : ⊥ = omega arith in y))

pub returns-then-size-place : goal.returns-then-size-place
returns-then-size-place c = pairs-stop _ _ _ _ _ _ c.if-f-first.false c.word_at-n.ensures.0 c.loop-i.invariant 31 c.loop-i-test.true
    (pair-beyond _ _ _ _ c.if-f-at.false (omega (arith, c.word_at-place.ensures.0, c.if-size-place.true)))
    (λ e. absurd (let y : ⊥ = omega arith in y))

pub returns-then-place-least : goal.returns-then-place-least
returns-then-place-least c = pairs-stop _ _ _ _ _ _ c.if-f-first.false c.word_at-n.ensures.0 c.loop-i.invariant 31 c.loop-i-test.true
    (pair-falls _ _ _ _ c.if-f-at.false (omega (arith, c.word_at-place.ensures.0, c.if-size-place.false))
    (omega (arith, c.word_at-place.ensures.0, c.if-place-least.true, c.loop-i.invariant.least-is))) (λ e. absurd (let y : ⊥ = omega arith in y))

pub overflow_add-least : goal.overflow_add-least
overflow_add-least c = omega (arith, c.word_at-place.ensures.1)

pub loop-i-preserved : goal.loop-i-preserved
loop-i-preserved c = pairs-more _ _ _ _ _ _ _ c.loop-i.invariant c.loop-i-test.true
    (pair-fine _ _ _ _ c.if-f-at.false (omega (arith, c.word_at-place.ensures.0, c.if-size-place.false))
    (omega (arith, c.word_at-place.ensures.0, c.if-place-least.false, c.loop-i.invariant.least-is))) c.word_at-place.ensures.0

pub returns : goal.returns
returns c = pairs_end _ _ _ _ _ _ c.if-f-first.false c.word_at-n.ensures.0 c.loop-i.invariant c.loop-i-test.false
