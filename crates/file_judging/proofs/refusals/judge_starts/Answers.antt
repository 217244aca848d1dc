-- `Starting`: what is left from core k on is what was asked, and its count stands at p.
use Prim.Native.Nat.{ℕ}
use mathlib.Core.Path.{sym, ap, ◌∙◌}
use native.Mathlib.Omega.{arith}
use Rattle.verdict.proofs.Refusals.{refused, handed_on}
use Rattle.taskset.specs.Judge.{pairs_refusal}
use Rattle.taskset.proofs.Laws.{starting-none, starting-more, starts-stop, starts-done, starts-followed}
use Rattle.file_judging.proofs.refusals.judge_starts.Goals as goal

pub loop-k-init : goal.loop-k-init
loop-k-init c = starting-none _ _ _ c.requires.2 c.requires.3

pub overflow_mul-k : goal.overflow_mul-k
overflow_mul-k c = omega (arith, c.requires.0)

pub overflow_add-k : goal.overflow_add-k
overflow_add-k c = omega (arith, c.requires.0)

pub judge_pairs-requires : goal.judge_pairs-requires
judge_pairs-requires c = omega (arith, c.loop-k.invariant.small, c.requires.0)

pub returns-in_err-judge_pairs : goal.returns-in_err-judge_pairs
returns-in_err-judge_pairs c = let f = c.args.f.now in
    handed_on _ _ c.from_residual.ensures.1
    (starts-stop f _ _ _ c.requires.1 c.loop-k.invariant _ c.loop-k-test.true
    (c.in_err-judge_pairs.ensures ∙ ap (λ (s : ℕ). pairs_refusal f s c.loop-k.p) c.word_at.ensures.0) (refused _))

pub overflow_add-p : goal.overflow_add-p
overflow_add-p c = omega (arith, c.loop-k.invariant.small, c.requires.0)

pub overflow_mul-p : goal.overflow_mul-p
overflow_mul-p c = omega (arith, c.word_at-in-loop-k.ensures.1)

pub overflow_add-p-in-loop-k : goal.overflow_add-p-in-loop-k
overflow_add-p-in-loop-k c = omega (arith, c.loop-k.invariant.small, c.requires.0, c.word_at-in-loop-k.ensures.1)

pub loop-k-preserved : goal.loop-k-preserved
loop-k-preserved c = let f = c.args.f.now in
    starting-more f _ _ _ _ c.loop-k.invariant c.loop-k-test.true
    (sym (ap (λ (s : ℕ). pairs_refusal f s c.loop-k.p) c.word_at.ensures.0)
    ∙ sym c.in_ok-judge_pairs.ensures) c.word_at-in-loop-k.ensures.0 c.word_at-in-loop-k.ensures.1

pub returns-then-p-f : goal.returns-then-p-f
returns-then-p-f c = starts-done c.args.f.now _ _ _ c.requires.1 c.loop-k.invariant c.loop-k-test.false c.if-p-f.true

pub returns : goal.returns
returns c = starts-followed c.args.f.now _ _ _ c.requires.1 c.loop-k.invariant c.loop-k-test.false c.if-p-f.false
