-- `exchange::named` meets its contract: a shift and a mask pick the bit. Assumes nothing.
use mathlib.Core.Path.{ap}
use Prim.Native.Nat.{ℕ, ◌+◌, ◌/◌, ◌^◌}
use lib.Bits.{and_mask}
use lib.Dec.{eqb}
use lib.ListN.{get_or}
use Rattle.exchange.specs.Exchange.{has_bit}
use Rattle.exchange.proofs.named.Goals as goal

pub returns : goal.returns
unfolding has_bit
returns c = ap (λ (x : ℕ). eqb x 1) (and_mask (get_or c.args.file.now (c.args.place + 3) 0 / 2 ^ c.args.bit) 1)
