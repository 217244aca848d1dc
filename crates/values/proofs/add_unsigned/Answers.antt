-- `values::add_unsigned` meets its contract. Each arm is the supplied wrapping sum at its width; one law serves them. Assumes nothing.
use Rattle.std.proofs.Common.{ℕ, ◌*◌, ap, refl}
use Rattle.values.proofs.Widths as Widths
use Rattle.values.proofs.add_unsigned.Goals as goal

pub returns-in-1 : goal.returns-in-1
returns-in-1 c = Widths.add_at c.args.w 8 (ap (λ (n : ℕ). 8 * n) c.in-1.is) c.args.x c.args.y refl

pub returns-in-2 : goal.returns-in-2
returns-in-2 c = Widths.add_at c.args.w 16 (ap (λ (n : ℕ). 8 * n) c.in-2.is) c.args.x c.args.y refl

pub returns-in-4 : goal.returns-in-4
returns-in-4 c = Widths.add_at c.args.w 32 (ap (λ (n : ℕ). 8 * n) c.in-4.is) c.args.x c.args.y refl
