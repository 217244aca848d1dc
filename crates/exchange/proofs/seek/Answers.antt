-- `exchange::seek` meets its contract. The invariant: no record up to the place has the bit. Assumes nothing.
use mathlib.Core.Path.{sym, ◌∙◌}
use native.Mathlib.Omega.{arith}
use Rattle.exchange.proofs.Records.{record-there, passed_none, passed-more, passed-end}
use Rattle.exchange.proofs.seek.Goals as goal

pub loop-place-init : goal.loop-place-init
loop-place-init c = passed_none _ _ c.requires.3

pub named-requires : goal.named-requires
named-requires c = (record-there _ c.requires.0 c.loop-place.invariant.place (omega arith), c.requires.2)

pub returns-then-named : goal.returns-then-named
returns-then-named c = (c.loop-place.invariant, λ h. sym c.named.ensures ∙ c.if-named.true)

pub loop-place-preserved : goal.loop-place-preserved
loop-place-preserved c = passed-more _ _ c.loop-place.invariant (omega arith) (sym c.named.ensures ∙ c.if-named.false)

pub returns : goal.returns
returns c = (passed-end _ _ c.loop-place.invariant c.requires.1 c.loop-place-test.false, λ h. absurd (let z : ⊥ = omega arith in z))

pub returns-else-named : goal.returns-else-named
returns-else-named c =
    let on = passed-more _ _ c.loop-place.invariant (omega arith) (sym c.named.ensures ∙ c.if-named.false) in
    (passed-end _ _ on c.requires.1 (omega arith), λ h. absurd (let z : ⊥ = omega arith in z))
