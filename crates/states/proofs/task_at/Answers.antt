-- Zeros past the last core.
use mathlib.Core.Path.{ap, sym, ◌∙◌}
use borrow.Author.Tests.{lt-ltb, le-ltb}
use Rattle.verdict.proofs.Verdict.{pick_true, pick-false}
use Rattle.taskset.specs.declared.Layout.{Layout}
use Rattle.states.specs.Tasks.{task_at}
use Rattle.states.proofs.task_at.Goals as goal

pub returns-then-layout-k : goal.returns-then-layout-k
unfolding task_at
returns-then-layout-k c = let e = ap (λ (l : Layout). l.cores) c.requires.1 in
    c.no_task.ensures ∙ sym (pick-false _ _ _ (le-ltb _ _ (rw e at c.if-layout-k.true)))

pub core_task-requires : goal.core_task-requires
core_task-requires c = let e = ap (λ (l : Layout). l.cores) c.requires.1 in
    (c.requires.0, c.requires.1, c.requires.2, rw e at c.if-layout-k.false)

pub returns : goal.returns
unfolding task_at
returns c = let e = ap (λ (l : Layout). l.cores) c.requires.1 in
    c.core_task.ensures ∙ sym (pick_true _ _ _ (lt-ltb _ _ (rw e at c.if-layout-k.false)))
