-- `dispatch::not_at` meets its contract. The addresses are tried before the command. Assumes nothing.
use Rattle.std.proofs.Common.{rules}
use Rattle.commands.proofs.Attempts.{given-type, was-beyond}
use Rattle.verdict.specs.Verdict.{pick}
use Rattle.values.specs.Commands.{result_type, result_width, second_width}
use Rattle.dispatch.proofs.not_at.Goals as goal

pub single_beyond-requires : goal.single_beyond-requires
single_beyond-requires c = search (given-type, rules)

pub returns-then-single_beyond : goal.returns-then-single_beyond
unfolding result_type result_width second_width pick
returns-then-single_beyond c = search was-beyond
