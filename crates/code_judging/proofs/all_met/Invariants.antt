-- The invariant: the largest byte so far is one of the map's, and no byte so far is larger.
use Prim.Native.Nat.{ℕ, ◌≤◌, ◌<◌}
use lib.ListN.{get_or}
use Rattle.code_judging.proofs.all_met.Given as goal

abbrev pub invariant-loop-mark : goal.invariant-loop-mark
invariant-loop-mark l = ((t : ℕ) → t < l.mark-index → get_or l.marks t 0 ≤ l.most) × (((t : ℕ) → get_or l.marks t 0 < 2) → l.most < 2)
