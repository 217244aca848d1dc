-- A list of zeros has a zero at every place.
use Prim.Native.Nat.{ℕ}
use lib.ListN.{length-replicate}
use Rattle.code.proofs.Laying.{zeros}
use Rattle.code_judging.proofs.cleared_short.Goals as goal

pub returns : goal.returns
returns c = (length-replicate {A = ℕ} 512 0, λ t. zeros 512 t)
