-- Each return is the first refusal of the chain; the lent part is the code.
use Prim.Native.Nat.{ℕ, ◌+◌, ◌-◌}
use mathlib.Core.Path.{◌≡◌, sym, ap, ◌∙◌}
use native.Mathlib.Omega.{arith}
use borrow.Author.Tests.{le-leb, lt-leb}
use lib.ListN.{take, drop}
use Rattle.verdict.proofs.Verdict.{skip, halt, yes, no}
use Rattle.memory.specs.Memory.{word, part}
use Rattle.code.specs.Code.{judge_code_for}
use Rattle.taskset.specs.Judge.{section_refusal}
use Rattle.file_judging.proofs.refusals.judge_section.Goals as goal

pub returns-then-f-a : goal.returns-then-f-a
unfolding section_refusal
returns-then-f-a c = halt 0 _ (no _ _ (lt-leb _ _ c.if-f-a.true))

pub returns-then-n-lt1 : goal.returns-then-n-lt1
unfolding section_refusal
returns-then-n-lt1 c = skip (yes _ _ (le-leb _ _ c.if-f-a.false)) (halt 5 _ (no _ _ (rw (sym c.word_at-n.ensures.0, lt-leb _ _ c.if-n-lt1.true))))

pub returns-then-n-gt8192 : goal.returns-then-n-gt8192
unfolding section_refusal
returns-then-n-gt8192 c = skip (yes _ _ (le-leb _ _ c.if-f-a.false)) (halt 5 _ (no _ _ (rw (sym c.word_at-n.ensures.0, le-leb _ _ c.if-n-lt1.false, lt-leb _ _ c.if-n-gt8192.true))))

pub returns-then-f-e : goal.returns-then-f-e
unfolding section_refusal
returns-then-f-e c = skip (yes _ _ (le-leb _ _ c.if-f-a.false))
    (skip (yes _ _ (rw (sym c.word_at-n.ensures.0, le-leb _ _ c.if-n-lt1.false, le-leb _ _ c.if-n-gt8192.false)))
    (halt 0 _ (no _ _ (rw (sym c.word_at-n.ensures.0, lt-leb _ _ c.if-f-e.true)))))

pub returns : goal.returns
unfolding section_refusal part
returns c = let s = c.args in
    let e : s.p + 2 + c.word_at-n.result - (s.p + 2) ≡ word s.f.now s.p = omega (arith, c.word_at-n.ensures.0) in
    skip (yes _ _ (le-leb _ _ c.if-f-a.false))
    (skip (yes _ _ (rw (sym c.word_at-n.ensures.0, le-leb _ _ c.if-n-lt1.false, le-leb _ _ c.if-n-gt8192.false)))
    (skip (yes _ _ (rw (sym c.word_at-n.ensures.0, le-leb _ _ c.if-f-e.false)))
    (c.judge_code_for.ensures ∙ ap (λ (n : ℕ). judge_code_for s.profile (take n (drop (s.p + 2) s.f.now))) e)))
