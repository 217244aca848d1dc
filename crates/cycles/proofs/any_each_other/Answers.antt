-- `cycles::any_each_other` meets its contract: the pairs of cores are tried in turn. Assumes nothing.
use mathlib.Core.Path.{sym, ◌∙◌}
use Rattle.protocol.specs.Cycles.{reads_from}
use Rattle.taskset.specs.Task.{variables_of}
use Rattle.cycles.proofs.Rings.{one-way-pairs}
use Rattle.verdict.proofs.Truth.{either-skip, either-stop}
use Rattle.cycles.proofs.any_each_other.Goals as goal

pub returns-then-each_other : goal.returns-then-each_other
returns-then-each_other c = either-stop _ (sym c.each_other.ensures ∙ c.if-each_other.true) ∙ one-way-pairs (reads_from (variables_of c.args.file.now))

pub returns-then-each_other-2 : goal.returns-then-each_other-2
returns-then-each_other-2 c = either-skip (sym c.each_other.ensures ∙ c.if-each_other.false) (either-stop _ (sym c.each_other-2.ensures ∙ c.if-each_other-2.true)) ∙ one-way-pairs (reads_from (variables_of c.args.file.now))

pub returns-then-each_other-3 : goal.returns-then-each_other-3
returns-then-each_other-3 c = either-skip (sym c.each_other.ensures ∙ c.if-each_other.false)
    (either-skip (sym c.each_other-2.ensures ∙ c.if-each_other-2.false)
    (either-stop _ (sym c.each_other-3.ensures ∙ c.if-each_other-3.true)))
    ∙ one-way-pairs (reads_from (variables_of c.args.file.now))

pub returns-then-each_other-4 : goal.returns-then-each_other-4
returns-then-each_other-4 c = either-skip (sym c.each_other.ensures ∙ c.if-each_other.false)
    (either-skip (sym c.each_other-2.ensures ∙ c.if-each_other-2.false)
    (either-skip (sym c.each_other-3.ensures ∙ c.if-each_other-3.false)
    (either-stop _ (sym c.each_other-4.ensures ∙ c.if-each_other-4.true))))
    ∙ one-way-pairs (reads_from (variables_of c.args.file.now))

pub returns-then-each_other-5 : goal.returns-then-each_other-5
returns-then-each_other-5 c = either-skip (sym c.each_other.ensures ∙ c.if-each_other.false)
    (either-skip (sym c.each_other-2.ensures ∙ c.if-each_other-2.false)
    (either-skip (sym c.each_other-3.ensures ∙ c.if-each_other-3.false)
    (either-skip (sym c.each_other-4.ensures ∙ c.if-each_other-4.false)
    (either-stop _ (sym c.each_other-5.ensures ∙ c.if-each_other-5.true)))))
    ∙ one-way-pairs (reads_from (variables_of c.args.file.now))

pub returns : goal.returns
returns c = either-skip (sym c.each_other.ensures ∙ c.if-each_other.false)
    (either-skip (sym c.each_other-2.ensures ∙ c.if-each_other-2.false)
    (either-skip (sym c.each_other-3.ensures ∙ c.if-each_other-3.false)
    (either-skip (sym c.each_other-4.ensures ∙ c.if-each_other-4.false)
    (either-skip (sym c.each_other-5.ensures ∙ c.if-each_other-5.false) c.each_other-6.ensures))))
    ∙ one-way-pairs (reads_from (variables_of c.args.file.now))
