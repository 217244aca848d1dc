-- `cycles::check_cycles` meets its contract: the file is judged first, then pairs, then rings. Assumes nothing.
use mathlib.Core.Path.{sym, ap, ◌∙◌}
use Rattle.std.specs.Prelude.{Err}
use Rattle.verdict.proofs.Refusals.{refused, handed}
use Rattle.cycles.proofs.Check.{told-refused, told-each-other, told-ringed, told_free}
use Rattle.cycles.proofs.check_cycles.Goals as goal

pub returns-in_err-judge_file : goal.returns-in_err-judge_file
returns-in_err-judge_file c = let judged = c.in_err-judge_file.ensures in
    rw (handed _ _ c.from_residual.ensures.1) (ap Err judged ∙ told-refused c.args.file.now (λ e. refused _ (judged ∙ e)))

pub any_each_other-requires : goal.any_each_other-requires
any_each_other-requires c = sym c.in_ok-judge_file.ensures

pub returns-then-any_each_other : goal.returns-then-any_each_other
returns-then-any_each_other c = told-each-other c.args.file.now (sym c.in_ok-judge_file.ensures) (sym c.if-any_each_other.true ∙ c.any_each_other.ensures)

pub any_ring-requires : goal.any_ring-requires
any_ring-requires c = sym c.in_ok-judge_file.ensures

pub returns-then-any_ring : goal.returns-then-any_ring
returns-then-any_ring c = told-ringed c.args.file.now (sym c.in_ok-judge_file.ensures) (sym c.if-any_each_other.false ∙ c.any_each_other.ensures) (sym c.if-any_ring.true ∙ c.any_ring.ensures)

pub returns : goal.returns
returns c = told_free c.args.file.now (sym c.in_ok-judge_file.ensures) (sym c.if-any_each_other.false ∙ c.any_each_other.ensures) (sym c.if-any_ring.false ∙ c.any_ring.ensures)
