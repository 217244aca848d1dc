-- `semaphore::line_entry` meets its contract. Assumes nothing.
use mathlib.Core.Path.{sym}
use native.Mathlib.Omega.{arith}
use lib.ListN.{take, length-take, get_or-eq_default}
use lib.Seq.{get_or-take}
use Rattle.semaphore.proofs.line_entry.Goals as goal

pub returns-then-m-i : goal.returns-then-m-i
returns-then-m-i c = sym (get_or-eq_default (take c.args.m.waiting c.args.m.line) 0 {n = c.args.i} (omega (arith, length-take c.args.m.waiting c.args.m.line, c.if-m-i.true)))

pub returns : goal.returns
returns c = sym (get_or-take c.args.m.waiting c.args.m.line c.args.i 0 (omega (arith, c.if-m-i.false)))
