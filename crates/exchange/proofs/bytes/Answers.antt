-- `exchange::bytes` meets its contract. The invariant: the widths before the place are added up. Assumes nothing.
use mathlib.Core.Path.{sym, ◌∙◌}
use Prim.Native.Nat.{◌+◌}
use native.Mathlib.Omega.{arith}
use Rattle.exchange.proofs.Records.{record-there, bytes-few, Added, added_none, added-named, added-unnamed, added-all}
use Rattle.exchange.proofs.bytes.Goals as goal
use Rattle.exchange.proofs.bytes.Goals.{then-named, else-named}

pub loop-place-init : goal.loop-place-init
loop-place-init c = added_none _ _ c.requires.1

pub named-requires : goal.named-requires
named-requires c = (record-there _ c.requires.0 c.loop-place.invariant.place (omega arith), c.requires.3)

pub overflow_add-total : goal.overflow_add-total
overflow_add-total c = omega (arith, record-there _ c.requires.0 c.loop-place.invariant.place (omega arith))

pub bounds-file-place : goal.bounds-file-place
bounds-file-place c = omega (arith, record-there _ c.requires.0 c.loop-place.invariant.place (omega arith))

pub overflow_cast-total : goal.overflow_cast-total
overflow_cast-total c = omega (arith, c.type_inv.file (c.loop-place.place + 2))

pub overflow_add-total-then-named : goal.overflow_add-total-then-named
overflow_add-total-then-named c = omega (arith, c.loop-place.invariant.rest, bytes-few _ c.args.bit c.requires.0, c.type_inv.file (c.loop-place.place + 2))

pub loop-place-preserved : goal.loop-place-preserved
loop-place-preserved c =
    elim c.if-named.branch [
      | then-named w ↦ added-named _ _ c.loop-place.invariant (omega arith) (sym c.named.ensures ∙ w.if-named.true) w.total-is
      | else-named w ↦ added-unnamed _ _ c.loop-place.invariant (omega arith) (sym c.named.ensures ∙ w.if-named.false) w.total-is
    ]

-- where the record is the last one
pub returns-after-named : goal.returns-after-named
returns-after-named c =
    let on : Added c.args.file.now c.args.bit (c.loop-place.place + 12) c.if-named.total =
    elim c.if-named.branch [
      | then-named w ↦ added-named _ _ c.loop-place.invariant (omega arith) (sym c.named.ensures ∙ w.if-named.true) w.total-is
      | else-named w ↦ added-unnamed _ _ c.loop-place.invariant (omega arith) (sym c.named.ensures ∙ w.if-named.false) w.total-is
    ] in
    let e = added-all _ _ on (omega arith) in
    (e, omega (arith, e, bytes-few _ c.args.bit c.requires.0))

pub returns : goal.returns
returns c = let e = added-all _ _ c.loop-place.invariant (omega arith) in
    (e, omega (arith, e, bytes-few _ c.args.bit c.requires.0))
