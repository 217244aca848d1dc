-- `bounds::put_lengths` meets its contract. Assumes nothing.
use native.Mathlib.Omega.{arith}
use lib.ListN.{length-set}
use Rattle.bounds.proofs.Outputs.{three-stored}
use Rattle.bounds.proofs.put_lengths.Goals as goal

pub bounds-lengths-1 : goal.bounds-lengths-1
bounds-lengths-1 c = simp length-set (omega arith)

pub returns : goal.returns
returns c = three-stored _ _ _ _
