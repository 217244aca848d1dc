-- `packed::to_packed` meets its contract: n has too many digits exactly if something is left of it. Assumes nothing.
use borrow.Author.Tests.{lt-ltb, le-ltb}
use mathlib.Core.Path.{sym, ap, ◌∙◌}
use Prim.Native.Nat.{ℕ, ◌*◌, ◌^◌}
use Rattle.std.specs.Prelude.{Some}
use Rattle.values.specs.declared.Value.TheVariants.{Unsigned}
use Rattle.packed.proofs.Decimal as Decimal
use Rattle.packed.specs.Packed.{packed_at}
use Rattle.verdict.specs.Verdict.{pick}
use Rattle.packed.proofs.to_packed.Goals as goal

pub returns-then-d-eq0 : goal.returns-then-d-eq0
unfolding packed_at pick
returns-then-d-eq0 c = let a = c.args in
    let e = c.pack-d.ensures in
    ap (λ (x : ℕ). Some (Unsigned x)) e.0 ∙ rw (lt-ltb a.n (10 ^ (2 * a.w)) (Decimal.no-rest a.n (2 * a.w) (sym e.1 ∙ c.if-d-eq0.true)))

pub returns-else-d-eq0 : goal.returns-else-d-eq0
unfolding packed_at pick
returns-else-d-eq0 c = let a = c.args in
    let e = c.pack-d.ensures in
    rw (le-ltb a.n (10 ^ (2 * a.w)) (Decimal.some-rest a.n (2 * a.w) (λ z. c.if-d-eq0.false (e.1 ∙ z))))
