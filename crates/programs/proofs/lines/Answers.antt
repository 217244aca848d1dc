-- Each line begins behind the end of the line before.
use Prim.Native.Nat.{◌-◌}
use native.Mathlib.Omega.{arith}
use Rattle.programs.proofs.lines.Goals as goal

pub slice_bounds-case-count : goal.slice_bounds-case-count
slice_bounds-case-count g c = c.line_end-end.ensures.1 (omega (arith, c.loop-from-test.true))

pub slice_bounds-case-start : goal.slice_bounds-case-start
slice_bounds-case-start g c = omega (arith, c.line_end-end.ensures.0, c.line_end-end.ensures.1 (omega (arith, c.loop-from-test.true)))

pub slice_bounds-case-end : goal.slice_bounds-case-end
slice_bounds-case-end g c = omega (arith, c.line_end-end.ensures.0, c.line_end-end.ensures.1 (omega (arith, c.loop-from-test.true)))

pub loop-from-smaller : goal.loop-from-smaller
loop-from-smaller g c = omega (arith, c.loop-from-test.true, c.line_end-end.ensures.0, c.line_end-end.ensures.1 (omega (arith, c.loop-from-test.true)))

pub loop-from-preserved : goal.loop-from-preserved
loop-from-preserved g c = omega (arith, c.line_end-end.ensures.0)
