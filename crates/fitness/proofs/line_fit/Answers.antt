-- The entries passed are fit, and those that are left decide. Assumes nothing.
use mathlib.Core.Path.{◌≡◌, refl, sym, ap, ◌∙◌}
use mathlib.Core.Bool.{not}
use native.Mathlib.Omega.{arith}
use borrow.Author.Rules.{rules}
use borrow.Author.Tests.{lt-ltb, le-ltb}
use lib.ListN.{length}
use Rattle.states.proofs.Tasks.{tasks-at}
use Rattle.states.proofs.Says.{fails, passes, rejects, admits}
use Rattle.states.proofs.Line.{fitting-none, fitting-stop, fitting-more, fitting-end, too_long_lem, may-by}
use Rattle.fitness.proofs.line_fit.Goals as goal

pub returns-then-waiting-gt-LINE : goal.returns-then-waiting-gt-LINE
returns-then-waiting-gt-LINE c = too_long_lem _ _ _ c.if-waiting-gt-LINE.true

pub loop-i-init : goal.loop-i-init
loop-i-init c = fitting-none _ _ _ (omega (arith, c.if-waiting-gt-LINE.false))

pub bounds-m-i : goal.bounds-m-i
bounds-m-i c = omega (arith, c.loop-i-test.true, c.loop-i.invariant.few)

pub overflow_add-i : goal.overflow_add-i
overflow_add-i c = record { fits = omega (arith, c.loop-i-test.true, c.loop-i.invariant.few) }

pub returns-then-in_line : goal.returns-then-in_line
returns-then-in_line c =
    let four-places : length c.args.s.semaphore.line ≡ 4 = search rules in
    fitting-stop _ _ _ c.loop-i.i c.loop-i.invariant c.loop-i-test.true four-places
    (fails _ (ap not (sym c.in_line.ensures ∙ c.if-in_line.true)))

pub returns-then-n-core : goal.returns-then-n-core
returns-then-n-core c =
    let four-places : length c.args.s.semaphore.line ≡ 4 = search rules in
    fitting-stop _ _ _ c.loop-i.i c.loop-i.invariant c.loop-i-test.true four-places
    (passes (ap not (sym c.in_line.ensures ∙ c.if-in_line.false))
    (fails _ (le-ltb _ _ (rw c.requires.2 at c.if-n-core.true))))

pub bounds-tasks-core : goal.bounds-tasks-core
bounds-tasks-core c = omega (arith, c.if-n-core.false, c.requires.0.few, c.requires.2)

pub bounds-s-core : goal.bounds-s-core
bounds-s-core c = omega (arith, c.if-n-core.false, c.requires.0.few, c.requires.2)

pub returns-then-not-may_wait : goal.returns-then-not-may_wait
returns-then-not-may_wait c =
    let four-places : length c.args.s.semaphore.line ≡ 4 = search rules in
    fitting-stop _ _ _ c.loop-i.i c.loop-i.invariant c.loop-i-test.true four-places
    (passes (ap not (sym c.in_line.ensures ∙ c.if-in_line.false))
    (passes (lt-ltb _ _ (rw c.requires.2 at c.if-n-core.false))
    (rejects _ (c.may_wait.ensures
    ∙ may-by _ _ _ _ _ (tasks-at _ _ c.requires.0 _ c.requires.1 _ (rw c.requires.2 at c.if-n-core.false)))
    (ap not c.if-not-may_wait.true))))

pub loop-i-preserved : goal.loop-i-preserved
loop-i-preserved c =
    let four-places : length c.args.s.semaphore.line ≡ 4 = search rules in
    fitting-more _ _ _ c.loop-i.i c.loop-i.invariant c.loop-i-test.true four-places
    (passes (ap not (sym c.in_line.ensures ∙ c.if-in_line.false))
    (passes (lt-ltb _ _ (rw c.requires.2 at c.if-n-core.false))
    (admits (c.may_wait.ensures
    ∙ may-by _ _ _ _ _ (tasks-at _ _ c.requires.0 _ c.requires.1 _ (rw c.requires.2 at c.if-n-core.false)))
    (ap not c.if-not-may_wait.false) refl)))

pub returns : goal.returns
returns c = fitting-end _ _ _ c.loop-i.i c.loop-i.invariant c.loop-i-test.false
