-- `execution::has_three` meets its contract: a shift and a mask pick the bit, and the bits are those of the table of commands. Assumes nothing.
use mathlib.Core.Path.{ap, ◌∙◌}
use Prim.Native.Nat.{ℕ, ◌/◌, ◌^◌}
use lib.Bits.{and_mask}
use lib.Dec.{eqb}
use Rattle.processor.proofs.Accepted.{three-bits}
use Rattle.execution.proofs.has_three.Goals as goal

pub returns : goal.returns
returns c = ap (λ (x : ℕ). eqb x 1) (and_mask (274728943616 / 2 ^ c.args.op) 1) ∙ three-bits c.args.op c.requires
