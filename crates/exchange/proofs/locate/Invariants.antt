-- `exchange::locate` meets its contract. The invariant: the cursor stands right after i bytes. Assumes nothing.
use Rattle.exchange.specs.Exchange.{At}
use Rattle.exchange.proofs.locate.Given as goal

abbrev pub invariant-loop-i : goal.invariant-loop-i
invariant-loop-i l = At l.file l.bit l.i l.cursor
