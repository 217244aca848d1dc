-- `table_runs::set_registers` meets its contract: past the four cores nothing changes. Assumes nothing.
use borrow.Author.Rules.{rules}
use mathlib.Core.Path.{sym}
use native.Mathlib.Omega.{arith}
use lib.Seq.{set_out}
use Rattle.table_runs.proofs.set_registers.Goals as goal

pub returns : goal.returns
returns c = sym (set_out _ _ _ (omega (arith, c.if-k-lt4.false)))
