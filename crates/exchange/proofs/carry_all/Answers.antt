-- `exchange::carry_all` meets its contract. Assumes nothing.
use mathlib.Core.Path.{refl, sym, ◌∙◌}
use Prim.Native.Nat.{◌+◌}
use native.Mathlib.Omega.{arith}
use Rattle.exchange.proofs.Records.{record-there}
use Rattle.exchange.proofs.Carrying.{CarriedTo, carried_none, carried-named, carried-unnamed, carried_all}
use Rattle.exchange.proofs.carry_all.Goals as goal
use Rattle.exchange.proofs.carry_all.Goals.{then-named, else-named}

pub loop-place-init : goal.loop-place-init
loop-place-init c = carried_none _ _ _ _ _ _ c.requires.1

pub named-requires : goal.named-requires
named-requires c = (record-there _ c.requires.0 c.loop-place.invariant.place (omega arith), c.requires.3)

pub word-from-requires : goal.word-from-requires
word-from-requires c = omega (arith, record-there _ c.requires.0 c.loop-place.invariant.place (omega arith))

pub word-to-requires : goal.word-to-requires
word-to-requires c = omega (arith, record-there _ c.requires.0 c.loop-place.invariant.place (omega arith))

pub bounds-file-place : goal.bounds-file-place
bounds-file-place c = omega (arith, record-there _ c.requires.0 c.loop-place.invariant.place (omega arith))

pub overflow_cast-file : goal.overflow_cast-file
overflow_cast-file c = omega (arith, c.type_inv.file (c.loop-place.place + 2))

pub copy-requires : goal.copy-requires
copy-requires c =
    let named = sym c.named.ensures ∙ c.if-named.true in
    let w = c.loop-place.invariant in (
      omega (arith, c.requires.7 _ w.place (omega arith) named, c.word-to.ensures, w.long),
      omega (arith, c.requires.6 _ w.place (omega arith) named, c.word-from.ensures),
    )

pub loop-place-preserved : goal.loop-place-preserved
loop-place-preserved c =
    let w = c.loop-place.invariant in
    elim c.if-named.branch [
      | then-named t ↦
          let named = sym c.named.ensures ∙ t.if-named.true in
          carried-named _ _ _ _ _ _ w (omega arith) named t.word-from.ensures t.word-to.ensures refl
          (omega (arith, c.requires.6 _ w.place (omega arith) named, t.word-from.ensures)) (t.dst-is ∙ t.copy.ensures)
      | else-named t ↦ carried-unnamed _ _ _ _ _ _ w (omega arith) (sym c.named.ensures ∙ t.if-named.false) t.dst-is
    ]

-- where the record is the last one
pub returns-after-named : goal.returns-after-named
returns-after-named c =
    let w = c.loop-place.invariant in
    let on : CarriedTo c.args.file.now c.args.bit c.args.source c.args.target c.args.src.now c.args.dst.now (c.loop-place.place + 12) c.if-named.dst =
    elim c.if-named.branch [
      | then-named t ↦
          let named = sym c.named.ensures ∙ t.if-named.true in
          carried-named _ _ _ _ _ _ w (omega arith) named t.word-from.ensures t.word-to.ensures refl
          (omega (arith, c.requires.6 _ w.place (omega arith) named, t.word-from.ensures)) (t.dst-is ∙ t.copy.ensures)
      | else-named t ↦ carried-unnamed _ _ _ _ _ _ w (omega arith) (sym c.named.ensures ∙ t.if-named.false) t.dst-is
    ] in
    carried_all _ _ _ _ _ _ on (omega arith)

pub shape_of-dst : goal.shape_of-dst
shape_of-dst c = c.loop-place.invariant.long

pub returns : goal.returns
returns c = carried_all _ _ _ _ _ _ c.loop-place.invariant (omega arith)
