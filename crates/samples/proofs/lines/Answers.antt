-- Each line begins behind the end of the line before.
use Prim.Native.Nat.{◌≤◌, ◌+◌, ◌-◌}
use lib.ListN.{length}
use native.Mathlib.Omega.{arith}
use borrow.Author.Rules.{rules}
use Rattle.samples.proofs.lines.Goals as goal

pub loop-from-smaller : goal.loop-from-smaller
loop-from-smaller g c = omega (arith, c.loop-from-test.true, c.line_end-from.ensures.0, c.line_end-from.ensures.1 (omega (arith, c.loop-from-test.true)))

pub loop-from-preserved : goal.loop-from-preserved
loop-from-preserved g c = omega (arith, c.line_end-from.ensures.0)
