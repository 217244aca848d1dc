-- `Sections`: what is left from core k on is what was asked, and its length stands at p. The start values follow the last code.
use mathlib.Core.Path.{sym, ap, ◌∙◌}
use native.Mathlib.Omega.{arith}
use Rattle.verdict.proofs.Verdict.{skip, going_end}
use Rattle.verdict.proofs.Refusals.{handed_on, stop-refused, going-refused}
use Rattle.taskset.specs.Judge.{code_place, section_refusal, start_place, codes_refusal}
use Rattle.taskset.proofs.Laws.{sections-none, sections-more, sections-end}
use Rattle.file_judging.proofs.refusals.judge_codes.Goals as goal

pub loop-k-init : goal.loop-k-init
loop-k-init c = sections-none _ _ _ _ c.requires.3 c.requires.4

pub judge_section-requires : goal.judge_section-requires
judge_section-requires c = omega (arith, c.loop-k.invariant.small, c.requires.1)

pub returns-in_err-judge_section : goal.returns-in_err-judge_section
unfolding codes_refusal
returns-in_err-judge_section c = rw (sym c.requires.2)
    (handed_on _ _ c.from_residual.ensures.1
    (stop-refused _ _ (going-refused _ _ _ _ _ c.loop-k.invariant.going c.loop-k-test.true
    (c.in_err-judge_section.ensures ∙ ap (section_refusal c.args.profile c.args.f.now) c.loop-k.invariant.here))))

pub overflow_add-p : goal.overflow_add-p
overflow_add-p c = omega (arith, c.loop-k.invariant.small, c.requires.1)

pub overflow_add-p-in-loop-k : goal.overflow_add-p-in-loop-k
overflow_add-p-in-loop-k c = omega (arith, c.loop-k.invariant.small, c.requires.1, c.word_at.ensures.1)

pub loop-k-preserved : goal.loop-k-preserved
loop-k-preserved c = sections-more _ _ _ _ _ _ c.loop-k.invariant c.loop-k-test.true (sym c.in_ok-judge_section.ensures) c.word_at.ensures.0 c.word_at.ensures.1

pub start_sections-requires : goal.start_sections-requires
start_sections-requires c = (c.requires.0, c.requires.2)

pub judge_starts-requires : goal.judge_starts-requires
unfolding start_place
judge_starts-requires c = (
  omega (arith, c.start_sections.ensures.1, c.requires.1),
  c.start_sections.ensures.0,
  sections-end _ _ _ _ _ c.loop-k.invariant c.loop-k-test.false ∙ ap (code_place c.args.f.now) c.requires.2,
  omega (arith, c.loop-k.invariant.small, c.loop-k.invariant.upto, c.requires.1),
)

pub returns : goal.returns
unfolding codes_refusal
returns c = rw (sym c.requires.2)
    (skip (sym (going_end _ _ _ _ c.loop-k.invariant.going c.loop-k-test.false)) c.judge_starts.ensures)
