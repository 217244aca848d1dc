-- `conversions::dropped` meets its contract: the leading zeros give the place of the leading digit, and that gives how many digits a REAL drops. Assumes nothing.
use lib.Count.{count_leading_zeros, leading_le, leading_top}
use Rattle.conversions.proofs.Single as Single
use Rattle.std.proofs.Common.{◌≡◌, ℕ, suc, ◌+◌, ◌-◌, sym, ap, ◌∙◌, arith}
use Rattle.conversions.proofs.dropped.Goals as goal

pub overflow_cast-z : goal.overflow_cast-z
overflow_cast-z c = record { fits = omega (arith, leading_le 64 c.args.m) }

pub overflow_sub-z : goal.overflow_sub-z
overflow_sub-z c = leading_le 64 c.args.m

pub returns-then-z-gt949 : goal.returns-then-z-gt949
returns-then-z-gt949 c = let t = leading_top 64 c.args.m c.requires.0 c.ranges.m.fits in
    let e : 64 - count_leading_zeros 64 c.args.m ≡ suc t.0 = omega (arith, t.1) in
    ap (λ (x : ℕ). x + c.args.j - 949) e ∙ sym (Single.drop-is c.args.m c.args.j t.0 t.2 t.3)

pub returns-else-z-gt949 : goal.returns-else-z-gt949
returns-else-z-gt949 c = let t = leading_top 64 c.args.m c.requires.0 c.ranges.m.fits in
    let e : 64 - count_leading_zeros 64 c.args.m ≡ suc t.0 = omega (arith, t.1) in
    omega (arith, e, c.if-z-gt949.false, Single.drop-is c.args.m c.args.j t.0 t.2 t.3)
