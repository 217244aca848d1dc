-- `core_runs::is_single` meets its contract: where it is, both tests were made. Assumes nothing.
use mathlib.Core.Path.{sym, ap, ◌∙◌}
use native.Mathlib.Omega.{arith}
use Rattle.processor.specs.Executable.{frequent}
use Rattle.core_runs.proofs.is_single.Goals as goal

pub returns : goal.returns
returns c e = (λ q. omega arith, ap frequent (sym c.command_of.ensures.0) ∙ sym c.is_frequent.ensures ∙ e)
