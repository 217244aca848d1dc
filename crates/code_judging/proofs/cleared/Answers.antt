-- A list of zeros has a zero at every place.
use Prim.Native.Nat.{ℕ}
use lib.ListN.{length-replicate}
use Rattle.code.proofs.Laying.{zeros}
use Rattle.code_judging.proofs.cleared.Goals as goal

pub returns : goal.returns
returns c = (length-replicate {A = ℕ} 8192 0, λ t. zeros 8192 t)
