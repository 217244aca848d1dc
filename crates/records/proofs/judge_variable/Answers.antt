-- Presence, then the rules.
use mathlib.Core.Path.{sym, ◌∙◌}
use borrow.Author.Tests.{le-leb, lt-leb}
use Rattle.verdict.proofs.Verdict.{skip, halt, yes, no}
use Rattle.records.specs.Records.{variable_refusal}
use Rattle.records.proofs.judge_variable.Goals as goal

pub returns-then-f-p : goal.returns-then-f-p
unfolding variable_refusal
returns-then-f-p c = rw (sym c.record_place-p.ensures.0) (halt 0 _ (no _ _ (lt-leb _ _ c.if-f-p.true)))

pub returns-then-variable_ok : goal.returns-then-variable_ok
unfolding variable_refusal
returns-then-variable_ok c = rw (sym c.record_place-p.ensures.0) (skip (yes _ _ (le-leb _ _ c.if-f-p.false)) (sym (yes _ _ (sym c.variable_ok.ensures ∙ c.if-variable_ok.true))))

pub returns-else-variable_ok : goal.returns-else-variable_ok
unfolding variable_refusal
returns-else-variable_ok c = rw (sym c.record_place-p.ensures.0) (skip (yes _ _ (le-leb _ _ c.if-f-p.false)) (sym (no _ _ (sym c.variable_ok.ensures ∙ c.if-variable_ok.false))))
