-- `exchange::bytes` meets its contract. The invariant: the widths before the place are added up. Assumes nothing.
use Rattle.exchange.proofs.Records.{Added}
use Rattle.exchange.proofs.bytes.Given as goal

abbrev pub invariant-loop-place : goal.invariant-loop-place
invariant-loop-place l = Added l.file l.bit l.place l.total
