-- `values::low_bytes` meets its contract. A shift of 1 by fewer than 64 places is a power of two. Assumes nothing.
use Rattle.std.proofs.Common.{◌≡◌, ℕ, ◌*◌, ◌%◌, ◌^◌, ◌<◌, sym, ap, subst, mod-eq_of_lt, arith, pow_pos}
use Rattle.values.proofs.Widths.{shifted}
use Rattle.values.proofs.low_bytes.Goals as goal

pub nonzero_rem-result : goal.nonzero_rem-result
nonzero_rem-result c = subst (λ (x : ℕ). 0 < x) (sym (shifted (8 * c.args.w) (omega arith))) (pow_pos (8 * c.args.w))

pub returns-then-w-lt8 : goal.returns-then-w-lt8
returns-then-w-lt8 c = ap (λ (x : ℕ). c.args.p % x) (shifted (8 * c.args.w) (omega arith))

pub returns-else-w-lt8 : goal.returns-else-w-lt8
returns-else-w-lt8 c = let e : c.args.w ≡ 8 = omega arith in
    subst (λ (k : ℕ). c.args.p ≡ c.args.p % 2 ^ (8 * k)) (sym e) (sym (mod-eq_of_lt c.ranges.p.fits))
