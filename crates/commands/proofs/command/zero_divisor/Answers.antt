-- `commands::command::zero_divisor` meets its contract. Of other commands and types the definition is false; else the divisor has the width of the type. Assumes nothing.
use Rattle.std.proofs.Common.{arith}
use Rattle.values.proofs.Reading.{width_small}
use Rattle.commands.proofs.Results.{no_divisor, divisor_place, divisor_zero}
use Rattle.commands.proofs.command.zero_divisor.Goals as goal

pub load-requires : goal.load-requires
load-requires c =
    (divisor_place c.args.op c.args.t c.if-op-eq19.true c.args.at _ c.width_of.result c.width_of.ensures c.requires.1, width_small c.args.t (omega (arith, c.if-t-le8.true)) c.width_of.ensures)

pub returns-then-t-le8 : goal.returns-then-t-le8
returns-then-t-le8 c =
    divisor_zero c.args.op c.args.t c.if-op-eq19.true _ _ _ _ c.width_of.ensures c.if-t-ge1.true c.if-t-le8.true c.load.ensures.0

pub returns-else-op-eq19 : goal.returns-else-op-eq19
returns-else-op-eq19 c = no_divisor c.args.op c.args.t _ (λ a b d. let z : ⊥ = omega (arith, a, b, d, c.else-op-eq19.either) in z)
