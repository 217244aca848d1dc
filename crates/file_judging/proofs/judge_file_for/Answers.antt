-- Head, variables, codes.
use Prim.Native.Nat.{ℕ, ◌+◌, ◌*◌}
use mathlib.Core.Path.{◌≡◌, sym, ap, ◌∙◌}
use native.Mathlib.Omega.{arith}
use lib.ListN.{get_or}
use Rattle.verdict.proofs.Verdict.{skip}
use Rattle.verdict.proofs.Refusals.{handed_on, stop-refused}
use Rattle.records.specs.File.{record_place}
use Rattle.taskset.specs.Judge.{head_refusal, code_place, judge_for}
use Rattle.taskset.proofs.Laws.{head-long, head-cores}
use Rattle.file_judging.proofs.judge_file_for.Goals as goal

pub returns-in_err-judge_head : goal.returns-in_err-judge_head
unfolding judge_for
returns-in_err-judge_head c = handed_on _ _ c.from_residual.ensures.1 (stop-refused _ _ c.in_err-judge_head.ensures)

pub returns-in_err-judge_variable_section : goal.returns-in_err-judge_variable_section
unfolding judge_for
returns-in_err-judge_variable_section c = handed_on _ _ c.from_residual-in_err-judge_variable_section.ensures.1 (skip (sym c.in_ok-judge_head.ensures) (stop-refused _ _ c.in_err-judge_variable_section.ensures))

pub judge_codes-requires : goal.judge_codes-requires
unfolding code_place
judge_codes-requires c = let f = c.args.f.now in
    let z : head_refusal c.args.profile f ≡ 0 = omega arith in
    let n = head-cores c.args.profile f z in (
      head-long c.args.profile f z,
      omega (arith, c.byte_at-n.ensures, n),
      c.byte_at-n.ensures,
      c.record_place.ensures.0
          ∙ ap (record_place f) (c.byte_at-m.ensures ∙ ap (λ (k : ℕ). get_or f (5 + 6 * k) 0) c.byte_at-n.ensures),
      omega (arith, c.record_place.ensures.1),
    )

pub returns : goal.returns
unfolding judge_for
returns c = skip (sym c.in_ok-judge_head.ensures)
    (skip (sym c.in_ok-judge_variable_section.ensures) c.judge_codes.ensures)
