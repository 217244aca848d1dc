-- Each return is the first refusal of the chain; then mark, body and counts are written. Assumes nothing.
use mathlib.Core.Path.{◌≡◌, refl, sym, ◌∙◌}
use mathlib.Core.Bool.{true}
use native.Mathlib.Omega.{arith}
use lib.ListN.{length}
use Rattle.verdict.proofs.Refusals.{refused, handed}
use Rattle.taskset.specs.Judge.{is_old, judge}
use Rattle.forms.proofs.Laws.{convert-refused, convert-granted, new-short, new-mark, new-file, new-length, new-room, new_none, new-written}
use Rattle.forms.proofs.to_new.Goals as goal

pub returns-then-f-lt4 : goal.returns-then-f-lt4
returns-then-f-lt4 c = convert-refused _ c.args.out.now _ 1 _ refl (new-short c.args.f.now _ c.if-f-lt4.true) (λ e. absurd (let y : ⊥ = omega arith in y))

pub returns-then-not-is_old : goal.returns-then-not-is_old
returns-then-not-is_old c = convert-refused _ c.args.out.now _ 2 _ refl
    (new-mark c.args.f.now _ c.if-f-lt4.false (sym c.is_old.ensures ∙ c.if-not-is_old.true))
    (λ e. absurd (let y : ⊥ = omega arith in y))

pub returns-in_err-judge_file : goal.returns-in_err-judge_file
returns-in_err-judge_file c = let has-mark : is_old c.args.f.now ≡ true = sym c.is_old.ensures ∙ c.if-not-is_old.false in
    rw (handed _ _ c.from_residual.ensures.1)
    (convert-refused _ c.args.out.now _ _ _ refl
    (new-file c.args.f.now _ c.if-f-lt4.false has-mark _ c.in_err-judge_file.ensures (refused _))
    (refused _))

pub returns-then-out-end : goal.returns-then-out-end
returns-then-out-end c =
    let has-mark : is_old c.args.f.now ≡ true = sym c.is_old.ensures ∙ c.if-not-is_old.false in
    let accepted : judge c.args.f.now ≡ 0 = sym c.in_ok-judge_file.ensures in
    convert-refused _ c.args.out.now _ 21 _ refl
    (new-room c.args.f.now _ c.if-f-lt4.false has-mark accepted _ c.byte_at.ensures
    c.if-out-end.true) (λ e. absurd (let y : ⊥ = omega arith in y))

pub returns : goal.returns
returns c =
    let has-mark : is_old c.args.f.now ≡ true = sym c.is_old.ensures ∙ c.if-not-is_old.false in
    let accepted : judge c.args.f.now ≡ 0 = sym c.in_ok-judge_file.ensures in
    let f = c.args.f.now in
    let out = c.args.out.now in
    convert-granted out _ _ _ _
    (new_none f _ c.if-f-lt4.false has-mark accepted _ c.byte_at.ensures c.if-out-end.false)
    (new-length f (length out) c.if-f-lt4.false has-mark accepted _ c.byte_at.ensures)
    (new-written f (length out) c.if-f-lt4.false has-mark accepted _ c.byte_at.ensures _ _ _ c.write_form.ensures c.store.ensures)
