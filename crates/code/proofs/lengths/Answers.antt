-- The rule of the whole table is one computed test.
use Rattle.verdict.specs.Verdict.{pick}
use Rattle.code.specs.Commands.{row_of, length_of}
use Rattle.code.proofs.Laws.{table-right}
use Rattle.code.proofs.lengths.Goals as goal

pub returns : goal.returns
unfolding length_of row_of pick
returns c = table-right _ tt
