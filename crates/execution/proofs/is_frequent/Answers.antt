-- `execution::is_frequent` meets its contract: a shift and a mask pick the bit, and the bits are those of the definition. Assumes nothing.
use mathlib.Core.Path.{ap, ◌∙◌}
use Prim.Native.Nat.{ℕ, ◌/◌, ◌^◌}
use lib.Bits.{and_mask}
use lib.Dec.{eqb}
use Rattle.processor.proofs.Accepted.{frequent-bits}
use Rattle.execution.proofs.is_frequent.Goals as goal

pub returns : goal.returns
returns c = ap (λ (x : ℕ). eqb x 1) (and_mask (274728943679 / 2 ^ c.args.op) 1) ∙ frequent-bits c.args.op c.requires
