-- `conversions::nearest_shift` meets its contract: by at most 63 places a division; by 64 only a comparison; by more nothing is left. Assumes nothing.
use lib.Ieee.Nearest.{closest}
use lib.Pow.{pow-lt}
use Rattle.std.proofs.Common.{◌≡◌, ℕ, ◌-◌, ◌*◌, ◌^◌, ◌<◌, sym, ap, ◌∙◌, subst, arith, pow_pos}
use Rattle.values.proofs.Widths.{shifted}
use Rattle.conversions.proofs.Rounding as Rounding
use Rattle.conversions.proofs.nearest_shift.Goals as goal

pub nearest_by_half-requires : goal.nearest_by_half-requires
nearest_by_half-requires c = let a = c.args in
    let h : a.k - 1 < 63 = omega arith in
    let e = shifted (a.k - 1) (omega arith) in
    (subst (λ (x : ℕ). 0 < x) (sym e) (pow_pos (a.k - 1)), subst (λ (x : ℕ). x < 2 ^ 63) (sym e) (pow-lt h))

pub returns-then-k-eq0 : goal.returns-then-k-eq0
returns-then-k-eq0 c = let a = c.args in
    let z : 0 ≡ a.k = sym c.if-k-eq0.true in
    sym (Rounding.closest-one a.m) ∙ ap (λ (x : ℕ). closest a.m (2 ^ x)) z

pub returns-then-k-lt64 : goal.returns-then-k-lt64
returns-then-k-lt64 c = let a = c.args in
    let h : 0 < a.k = omega arith in
    c.nearest_by_half.ensures ∙ ap (λ (x : ℕ). closest a.m x) (ap (λ (x : ℕ). x * 2) (shifted (a.k - 1) (omega arith)) ∙ Rounding.double a.k h)

pub returns-then-m-gt9223372036854775808 : goal.returns-then-m-gt9223372036854775808
returns-then-m-gt9223372036854775808 c = sym (ap (λ (x : ℕ). closest c.args.m (2 ^ x)) c.if-k-eq64.true ∙ Rounding.at-64-up c.args.m c.if-m-gt9223372036854775808.true c.ranges.m.fits)

pub returns-else-m-gt9223372036854775808 : goal.returns-else-m-gt9223372036854775808
returns-else-m-gt9223372036854775808 c = sym (ap (λ (x : ℕ). closest c.args.m (2 ^ x)) c.if-k-eq64.true ∙ Rounding.at-64-down c.args.m c.if-m-gt9223372036854775808.false)

pub returns-else-k-eq64 : goal.returns-else-k-eq64
returns-else-k-eq64 c = let h : 64 < c.args.k = omega arith in
    sym (Rounding.beyond-64 c.args.m c.args.k h c.ranges.m.fits)
