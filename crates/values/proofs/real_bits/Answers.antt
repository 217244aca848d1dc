-- `values::real_bits` meets its contract. Every NaN has one pattern. Assumes nothing.
use lib.Ieee as Ieee
use lib.Ieee.{binary32}
use Rattle.std.proofs.Common.{sym, ap, ◌∙◌}
use Rattle.values.proofs.Floats.{is-nan}
use Rattle.values.proofs.real_bits.Goals as goal

pub returns-then-is_nan : goal.returns-then-is_nan
unfolding Ieee.to_bits
returns-then-is_nan c = sym (ap (Ieee.to_bits binary32) (is-nan c.args.x (sym c.is_nan.ensures.value ∙ c.if-is_nan.true)))
