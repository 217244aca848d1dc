-- `exchange::carry` meets its contract. The invariant: the bytes before the cursor are copied, `left` are to come. Assumes nothing.
use native.Mathlib.Omega.{arith}
use Prim.Native.Nat.{◌+◌}
use Rattle.exchange.proofs.Records.{place-next}
use Rattle.exchange.proofs.Cursors.{at-found, at_place, at_before, at-chosen, at-within, at-whole, record-whole, byte-few}
use Rattle.exchange.proofs.Carrying.{under_first, under_last, left-some, under-on}
use Rattle.exchange.proofs.carry.Goals as goal

pub loop-left-init : goal.loop-left-init
loop-left-init c = under_first _ _ _ _ _ _ _ _ c.requires.5

pub overflow_add-width : goal.overflow_add-width
overflow_add-width c = let p = c.requires in
    let w = c.loop-left.invariant in
    omega (arith, record-whole _ _ w.at (left-some _ _ _ _ _ _ _ _ w c.loop-left-test.true p.6) p.0)

pub bounds-file-place : goal.bounds-file-place
bounds-file-place c = let p = c.requires in
    let w = c.loop-left.invariant in
    omega (arith, record-whole _ _ w.at (left-some _ _ _ _ _ _ _ _ w c.loop-left-test.true p.6) p.0)

pub overflow_cast-width : goal.overflow_cast-width
overflow_cast-width c = omega (arith, c.type_inv.file (c.loop-left.place + 2))

pub overflow_sub-width : goal.overflow_sub-width
overflow_sub-width c = let p = c.requires in
    let w = c.loop-left.invariant in
    omega (arith, (at-chosen _ _ w.at (left-some _ _ _ _ _ _ _ _ w c.loop-left-test.true p.6)).1)

pub overflow_add-place : goal.overflow_add-place
overflow_add-place c = let p = c.requires in
    let w = c.loop-left.invariant in
    omega (arith, p.3, record-whole _ _ w.at (left-some _ _ _ _ _ _ _ _ w c.loop-left-test.true p.6) p.0)

pub byte_place-from-requires : goal.byte_place-from-requires
byte_place-from-requires c = let p = c.requires in
    let w = c.loop-left.invariant in
    let l = left-some _ _ _ _ _ _ _ _ w c.loop-left-test.true p.6 in
    (omega (arith, p.3, record-whole _ _ w.at l p.0), byte-few _ _ w.at l p.0)

pub overflow_add-place-in-loop-left : goal.overflow_add-place-in-loop-left
overflow_add-place-in-loop-left c = let p = c.requires in
    let w = c.loop-left.invariant in
    omega (arith, p.4, record-whole _ _ w.at (left-some _ _ _ _ _ _ _ _ w c.loop-left-test.true p.6) p.0)

pub byte_place-to-requires : goal.byte_place-to-requires
byte_place-to-requires c = let p = c.requires in
    let w = c.loop-left.invariant in
    let l = left-some _ _ _ _ _ _ _ _ w c.loop-left-test.true p.6 in
    (omega (arith, p.4, record-whole _ _ w.at l p.0), byte-few _ _ w.at l p.0)

pub copy_bytes-requires : goal.copy_bytes-requires
copy_bytes-requires c = let p = c.requires in
    let w = c.loop-left.invariant in
    let l = left-some _ _ _ _ _ _ _ _ w c.loop-left-test.true p.6 in
    let n = c.min-n.ensures in
    let chosen = at-chosen _ _ w.at l in (
      omega (arith, n, chosen.1, w.long, c.byte_place-to.ensures, p.8 _ (at_place _ _ w.at l) (at_before _ _ w.at l) chosen.0),
      omega (arith, n, chosen.1, c.byte_place-from.ensures, p.7 _ (at_place _ _ w.at l) (at_before _ _ w.at l) chosen.0),
    )

pub overflow_add-byte : goal.overflow_add-byte
overflow_add-byte c = let p = c.requires in
    let w = c.loop-left.invariant in
    let l = left-some _ _ _ _ _ _ _ _ w c.loop-left-test.true p.6 in
    omega (arith, c.min-n.ensures, (at-chosen _ _ w.at l).1, c.type_inv.file (c.loop-left.place + 2))

pub overflow_sub-left : goal.overflow_sub-left
overflow_sub-left c = omega (arith, c.min-n.ensures)

pub overflow_add-place-then-byte-width : goal.overflow_add-place-then-byte-width
overflow_add-place-then-byte-width c = let p = c.requires in
    let w = c.loop-left.invariant in
    omega (arith, record-whole _ _ w.at (left-some _ _ _ _ _ _ _ _ w c.loop-left-test.true p.6) p.0)

pub seek-place-requires : goal.seek-place-requires
seek-place-requires c = let p = c.requires in
    let w = c.loop-left.invariant in
    let l = left-some _ _ _ _ _ _ _ _ w c.loop-left-test.true p.6 in
    (p.0, p.1, p.2, place-next _ (at_place _ _ w.at l) (at_before _ _ w.at l))

pub loop-left-smaller-then-byte-width : goal.loop-left-smaller-then-byte-width
loop-left-smaller-then-byte-width c = let p = c.requires in
    let w = c.loop-left.invariant in
    let l = left-some _ _ _ _ _ _ _ _ w c.loop-left-test.true p.6 in
    omega (arith, c.min-n.ensures, (at-chosen _ _ w.at l).1, c.loop-left-test.true)

pub loop-left-preserved-then-byte-width : goal.loop-left-preserved-then-byte-width
loop-left-preserved-then-byte-width c = let p = c.requires in
    let w = c.loop-left.invariant in
    let some = c.loop-left-test.true in
    let l = left-some _ _ _ _ _ _ _ _ w some p.6 in
    let n = c.min-n.ensures in
    let chosen = at-chosen _ _ w.at l in
    let side = p.7 _ (at_place _ _ w.at l) (at_before _ _ w.at l) chosen.0 in
    under-on _ _ _ _ _ _ _ _ w some p.6 _ (omega (arith, n)) (omega (arith, n, chosen.1)) c.byte_place-from.ensures
    c.byte_place-to.ensures
    (omega (arith, n, chosen.1, c.byte_place-from.ensures, side)) c.copy_bytes.ensures
    (at-found _ _ p.0 _ (place-next _ (at_place _ _ w.at l) (at_before _ _ w.at l)) (at-whole _ _ w.at l _ c.if-byte-width.true) c.seek-place.ensures.0
    (λ h. c.seek-place.ensures.1 (omega (arith, p.1))))

pub loop-left-smaller : goal.loop-left-smaller
loop-left-smaller c = let p = c.requires in
    let w = c.loop-left.invariant in
    let l = left-some _ _ _ _ _ _ _ _ w c.loop-left-test.true p.6 in
    omega (arith, c.min-n.ensures, (at-chosen _ _ w.at l).1, c.loop-left-test.true)

pub loop-left-preserved : goal.loop-left-preserved
loop-left-preserved c = let p = c.requires in
    let w = c.loop-left.invariant in
    let some = c.loop-left-test.true in
    let l = left-some _ _ _ _ _ _ _ _ w some p.6 in
    let n = c.min-n.ensures in
    let chosen = at-chosen _ _ w.at l in
    let side = p.7 _ (at_place _ _ w.at l) (at_before _ _ w.at l) chosen.0 in
    under-on _ _ _ _ _ _ _ _ w some p.6 _ (omega (arith, n)) (omega (arith, n, chosen.1)) c.byte_place-from.ensures c.byte_place-to.ensures
    (omega (arith, n, chosen.1, c.byte_place-from.ensures, side)) c.copy_bytes.ensures
    (at-within _ _ w.at l _ (omega (arith, n, chosen.1, c.if-byte-width.false)))

pub shape_of-dst : goal.shape_of-dst
shape_of-dst c = c.loop-left.invariant.long

pub returns : goal.returns
returns c = under_last _ _ _ _ _ _ _ _ c.loop-left.invariant (omega (arith, c.loop-left-test.false))
