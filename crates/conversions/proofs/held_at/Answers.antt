-- `conversions::held_at` meets its contract: signed or not, it is what its two callees say. Assumes nothing.
use Rattle.std.proofs.Common.{Bool, sym, ap, ◌∙◌}
use Rattle.conversions.specs.Conversions.{held_in, with_sign}
use Rattle.conversions.proofs.held_at.Goals as goal

pub returns-then-signed : goal.returns-then-signed
returns-then-signed c = let a = c.args in c.signed_at.ensures ∙ ap (λ (b : Bool). held_in b a.w (with_sign a.negative a.n)) (sym c.if-signed.true)

pub returns-else-signed : goal.returns-else-signed
returns-else-signed c = let a = c.args in c.unsigned_at.ensures ∙ ap (λ (b : Bool). held_in b a.w (with_sign a.negative a.n)) (sym c.if-signed.false)
