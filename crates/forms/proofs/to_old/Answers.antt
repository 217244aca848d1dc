-- Each return is the first refusal of the chain; then mark and body are written. Assumes nothing.
use mathlib.Core.Path.{◌≡◌, refl, sym, ◌∙◌}
use mathlib.Core.Bool.{true}
use native.Mathlib.Omega.{arith}
use lib.ListN.{length}
use Rattle.verdict.proofs.Refusals.{refused, handed}
use Rattle.taskset.specs.Judge.{is_new, start_place, judge}
use Rattle.taskset.proofs.Exact.{keeps-rules}
use Rattle.forms.proofs.BothWays.{body-begins, body-ends}
use Rattle.forms.proofs.Laws.{convert-refused, convert-granted, end_is, old-short, old-mark, old-file, old-length, old-starts, old-room, old-none, old-written}
use Rattle.forms.proofs.to_old.Goals as goal

pub returns-then-f-lt4 : goal.returns-then-f-lt4
returns-then-f-lt4 c = convert-refused _ c.args.out.now _ 1 _ refl (old-short c.args.f.now _ c.if-f-lt4.true) (λ e. absurd (let y : ⊥ = omega arith in y))

pub returns-then-not-is_new : goal.returns-then-not-is_new
returns-then-not-is_new c = convert-refused _ c.args.out.now _ 2 _ refl
    (old-mark c.args.f.now _ c.if-f-lt4.false (sym c.is_new.ensures ∙ c.if-not-is_new.true))
    (λ e. absurd (let y : ⊥ = omega arith in y))

pub returns-in_err-judge_file : goal.returns-in_err-judge_file
returns-in_err-judge_file c = let has-mark : is_new c.args.f.now ≡ true = sym c.is_new.ensures ∙ c.if-not-is_new.false in
    rw (handed _ _ c.from_residual.ensures.1)
    (convert-refused _ c.args.out.now _ _ _ refl
    (old-file c.args.f.now _ c.if-f-lt4.false has-mark _ c.in_err-judge_file.ensures (refused _))
    (refused _))

pub code_place-end-requires : goal.code_place-end-requires
code_place-end-requires c =
    let accepted : judge c.args.f.now ≡ 0 = sym c.in_ok-judge_file.ensures in
    omega (arith, c.byte_at-n.ensures, (keeps-rules c.args.f.now accepted).most-cores)

pub returns-then-f-end : goal.returns-then-f-end
returns-then-f-end c =
    let has-mark : is_new c.args.f.now ≡ true = sym c.is_new.ensures ∙ c.if-not-is_new.false in
    let accepted : judge c.args.f.now ≡ 0 = sym c.in_ok-judge_file.ensures in
    let code-end : c.code_place-end.result ≡ start_place c.args.f.now 0 = end_is c.args.f.now _ _ c.code_place-end.ensures.0 c.byte_at-n.ensures in
    let f = c.args.f.now in
    convert-refused _ c.args.out.now _ 32 _ refl
    (old-starts f _ c.if-f-lt4.false has-mark accepted _ _ c.byte_at-n.ensures code-end
    c.if-f-end.true) (λ e. absurd (let y : ⊥ = omega arith in y))

pub returns-then-out-end : goal.returns-then-out-end
returns-then-out-end c =
    let has-mark : is_new c.args.f.now ≡ true = sym c.is_new.ensures ∙ c.if-not-is_new.false in
    let accepted : judge c.args.f.now ≡ 0 = sym c.in_ok-judge_file.ensures in
    let code-end : c.code_place-end.result ≡ start_place c.args.f.now 0 = end_is c.args.f.now _ _ c.code_place-end.ensures.0 c.byte_at-n.ensures in
    let f = c.args.f.now in
    convert-refused _ c.args.out.now _ 21 _ refl
    (old-room f _ c.if-f-lt4.false has-mark accepted _ _ c.byte_at-n.ensures code-end
    c.if-f-end.false c.if-out-end.true) (λ e. absurd (let y : ⊥ = omega arith in y))

pub write_form-requires : goal.write_form-requires
write_form-requires c =
    let accepted : judge c.args.f.now ≡ 0 = sym c.in_ok-judge_file.ensures in
    let code-end : c.code_place-end.result ≡ start_place c.args.f.now 0 = end_is c.args.f.now _ _ c.code_place-end.ensures.0 c.byte_at-n.ensures in
    let f = c.args.f.now in (
      omega (arith, code-end, body-begins f accepted),
      omega (arith, code-end, body-ends f accepted),
      c.if-out-end.false,
    )

pub returns : goal.returns
returns c =
    let has-mark : is_new c.args.f.now ≡ true = sym c.is_new.ensures ∙ c.if-not-is_new.false in
    let accepted : judge c.args.f.now ≡ 0 = sym c.in_ok-judge_file.ensures in
    let code-end : c.code_place-end.result ≡ start_place c.args.f.now 0 = end_is c.args.f.now _ _ c.code_place-end.ensures.0 c.byte_at-n.ensures in
    let f = c.args.f.now in
    let out = c.args.out.now in
    convert-granted out _ _ _ _
    (old-none f _ c.if-f-lt4.false has-mark accepted _ _ c.byte_at-n.ensures code-end c.if-f-end.false c.if-out-end.false)
    (old-length f (length out) c.if-f-lt4.false has-mark accepted _ _ c.byte_at-n.ensures code-end)
    (old-written f (length out) c.if-f-lt4.false has-mark accepted _ _ c.byte_at-n.ensures code-end _ _ c.write_form.ensures)
