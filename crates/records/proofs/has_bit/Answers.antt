-- The shift and the mask leave the bit.
use mathlib.Core.Path.{ap}
use Prim.Native.Nat.{ℕ}
use lib.Dec.{eqb}
use Rattle.records.proofs.Laws.{bit-and}
use Rattle.records.proofs.has_bit.Goals as goal

pub returns : goal.returns
returns c = ap (λ (n : ℕ). eqb n 1) (bit-and c.args.a c.args.k)
