-- `values::sub_unsigned` meets its contract. Each arm is the supplied wrapping difference at its width; one law serves all four. Assumes nothing.
use native.Mathlib.Nat.{mod-mod}
use Rattle.std.proofs.Common.{ℕ, ◌*◌, ◌%◌, ◌^◌, ap, refl, arith, mod-lt, pow_pos}
use Rattle.values.proofs.Widths as Widths
use Rattle.values.proofs.sub_unsigned.Goals as goal

pub returns-in-1 : goal.returns-in-1
returns-in-1 c =
    Widths.sub_at c.args.w 8 (ap (λ (n : ℕ). 8 * n) c.in-1.is) c.args.x c.args.y (c.args.x % 2 ^ 8) (c.args.y % 2 ^ 8) (mod-mod c.args.x (2 ^ 8)) (mod-mod c.args.y (2 ^ 8))
    (omega (arith, mod-lt c.args.y (pow_pos 8))) refl

pub returns-in-2 : goal.returns-in-2
returns-in-2 c =
    Widths.sub_at c.args.w 16 (ap (λ (n : ℕ). 8 * n) c.in-2.is) c.args.x c.args.y (c.args.x % 2 ^ 16) (c.args.y % 2 ^ 16) (mod-mod c.args.x (2 ^ 16)) (mod-mod c.args.y (2 ^ 16))
    (omega (arith, mod-lt c.args.y (pow_pos 16))) refl

pub returns-in-4 : goal.returns-in-4
returns-in-4 c =
    Widths.sub_at c.args.w 32 (ap (λ (n : ℕ). 8 * n) c.in-4.is) c.args.x c.args.y (c.args.x % 2 ^ 32) (c.args.y % 2 ^ 32) (mod-mod c.args.x (2 ^ 32)) (mod-mod c.args.y (2 ^ 32))
    (omega (arith, mod-lt c.args.y (pow_pos 32))) refl

pub returns-in_default : goal.returns-in_default
returns-in_default c =
    Widths.sub_at c.args.w 64 (ap (λ (n : ℕ). 8 * n) (Widths.last-width c.requires c.in_default.in_default-own.rest.0.0.1 c.in_default.in_default-own.rest.0.1 c.in_default.in_default-own.rest.1)) c.args.x c.args.y c.args.x c.args.y refl refl
    (omega (arith, c.ranges.y.fits)) refl
