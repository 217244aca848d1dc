-- The refusal decides.
use mathlib.Core.Path.{sym}
use Rattle.verdict.specs.Verdict.{pick}
use Rattle.verdict.proofs.Refusals.{handed}
use Rattle.taskset.specs.Layout.{load_for}
use Rattle.taskset.proofs.Loading.{file-refused}
use Rattle.file_loading.proofs.load_file_for.Goals as goal

pub returns-in_err-judge_file_for : goal.returns-in_err-judge_file_for
returns-in_err-judge_file_for c = rw (handed _ _ c.from_residual.ensures.1) (file-refused _ _ _ c.in_err-judge_file_for.ensures)

pub returns : goal.returns
unfolding load_for pick
returns c = rw (sym c.in_ok-judge_file_for.ensures, c.layout_of.ensures)
