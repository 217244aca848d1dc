-- The scan of the records that are left is the whole scan. Assumes nothing.
use Rattle.std.proofs.Common.{◌≡◌, ◌-◌, ◌≤◌}
use Rattle.rikzord.specs.Lent.{scan_from, scanned}
use Rattle.rikzord.proofs.scan.Given as goal

abbrev pub invariant-loop-i : goal.invariant-loop-i
invariant-loop-i l = (l.i ≤ l.r.cores) × (scan_from l.t l.r (l.r.cores - l.i) l.i ≡ scanned l.t l.r)
