-- `listing::write_lines` meets its contract. The invariant: the lines that are left are still to be written, and each before took at most 30 bytes.
-- Assumes nothing.
use Prim.Native.Nat.{◌+◌, ◌<◌, min}
use mathlib.Core.Path.{sym}
use native.Mathlib.Omega.{arith}
use lib.ListN.{length, take, drop, get_or}
use Rattle.states.specs.Machine.{no_registers}
use Rattle.listing.specs.Listing.{core_line, core_lines}
use Rattle.listing.proofs.Writing.{writing_start, writing_more, writing-end}
use Rattle.listing.proofs.Lines.{first-line, last_line}
use Rattle.listing.proofs.write_lines.Goals as goal

pub loop-k-init : goal.loop-k-init
loop-k-init c = (omega arith, writing_start _ _ _)

pub write_line-next-requires : goal.write_line-next-requires
write_line-next-requires c = (omega arith, omega arith)

pub loop-k-preserved : goal.loop-k-preserved
loop-k-preserved c = (
  omega arith,
  let h : c.loop-k.k < min c.args.n (length c.table_of-cores.result) = omega (arith, c.table_of-cores.ensures.1) in
      writing_more (core_line c.loop-k.k (get_or c.table_of-cores.result c.loop-k.k no_registers))
      (core_lines (c.loop-k.k + 1) (drop (c.loop-k.k + 1) (take c.args.n c.table_of-cores.result)))
      c.loop-k.invariant.1 (first-line c.table_of-cores.result c.args.n c.loop-k.k no_registers h)
      c.write_line-next.ensures.0 c.write_line-next.ensures.1,
)

pub returns : goal.returns
returns c = let w = writing-end c.loop-k.invariant.1 (last_line c.table_of-cores.result c.args.n c.loop-k.k (omega (arith, c.table_of-cores.ensures.1))) in
    rw (sym c.table_of-cores.ensures.0) (w.0, w.1, omega arith)
