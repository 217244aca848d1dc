-- Each line begins behind the end of the line before.
use Prim.Native.Nat.{◌≤◌, ◌+◌, ◌-◌}
use lib.ListN.{length}
use native.Mathlib.Omega.{arith}
use borrow.Author.Rules.{rules}
use Rattle.samples.proofs.lines.Given as goal

abbrev pub invariant-loop-from : goal.invariant-loop-from
invariant-loop-from g l = l.from ≤ length l.text + 1

abbrev pub decreases-loop-from : goal.decreases-loop-from
decreases-loop-from g l = length l.text + 1 - l.from
