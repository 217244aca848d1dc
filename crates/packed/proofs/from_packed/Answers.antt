-- `packed::from_packed` meets its contract: the digits are tested, then read from the top. Assumes nothing.
use mathlib.Core.Path.{sym, ap, ◌∙◌}
use Prim.Native.Nat.{ℕ}
use Rattle.std.specs.Prelude.{Some}
use Rattle.values.specs.declared.Value.TheVariants.{Unsigned}
use Rattle.packed.specs.Packed.{unpacked_at}
use Rattle.verdict.specs.Verdict.{pick}
use Rattle.packed.proofs.from_packed.Goals as goal

pub returns-then-all_digits : goal.returns-then-all_digits
unfolding unpacked_at pick
returns-then-all_digits c = let a = c.args in
    ap (λ (x : ℕ). Some (Unsigned x)) c.unpack.ensures ∙ rw (sym c.all_digits.ensures ∙ c.if-all_digits.true)

pub returns-else-all_digits : goal.returns-else-all_digits
unfolding unpacked_at pick
returns-else-all_digits c = rw (sym c.all_digits.ensures ∙ c.if-all_digits.false)
