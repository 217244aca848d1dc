-- Presence, then the rules.
use mathlib.Core.Path.{sym, ◌∙◌}
use borrow.Author.Tests.{le-leb, lt-leb}
use Rattle.verdict.proofs.Verdict.{skip, halt, yes, no}
use Rattle.records.specs.Records.{core_refusal}
use Rattle.records.proofs.judge_core.Goals as goal

pub returns-then-f-k : goal.returns-then-f-k
unfolding core_refusal
returns-then-f-k c = halt 0 _ (no _ _ (lt-leb _ _ c.if-f-k.true))

pub returns-then-core_ok : goal.returns-then-core_ok
unfolding core_refusal
returns-then-core_ok c = skip (yes _ _ (le-leb _ _ c.if-f-k.false)) (sym (yes _ _ (sym c.core_ok.ensures ∙ c.if-core_ok.true)))

pub returns-else-core_ok : goal.returns-else-core_ok
unfolding core_refusal
returns-else-core_ok c = skip (yes _ _ (le-leb _ _ c.if-f-k.false)) (sym (no _ _ (sym c.core_ok.ensures ∙ c.if-core_ok.false)))
