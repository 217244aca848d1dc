-- `exchange::onward` meets its contract: within the variable, or past its last byte at the next one that has the bit. Assumes nothing.
use Prim.Native.Nat.{◌+◌}
use native.Mathlib.Omega.{arith}
use Rattle.exchange.proofs.Records.{place-next}
use Rattle.exchange.proofs.Cursors.{at-found, at_place, at_before, at-chosen, at-within, at-whole, record-whole, byte-few}
use Rattle.exchange.proofs.onward.Goals as goal

pub overflow_add-byte : goal.overflow_add-byte
overflow_add-byte c = let p = c.requires in
    omega (arith, byte-few _ _ p.3 p.4 p.0)

pub bounds-file-place : goal.bounds-file-place
bounds-file-place c = let p = c.requires in
    omega (arith, record-whole _ _ p.3 p.4 p.0)

pub overflow_cast-file : goal.overflow_cast-file
overflow_cast-file c = omega (arith, c.type_inv.file (c.args.cursor.«record» + 2))

pub returns-then-byte-file : goal.returns-then-byte-file
returns-then-byte-file c = let p = c.requires in
    at-within _ _ p.3 p.4 1 c.if-byte-file.true

pub seek-next-requires : goal.seek-next-requires
seek-next-requires c = let p = c.requires in
    (p.0, p.1, p.2, place-next _ (at_place _ _ p.3 p.4) (at_before _ _ p.3 p.4))

pub returns : goal.returns
returns c = let p = c.requires in
    at-found _ _ p.0 _ (place-next _ (at_place _ _ p.3 p.4) (at_before _ _ p.3 p.4)) (at-whole _ _ p.3 p.4 1 (omega (arith, c.if-byte-file.false, (at-chosen _ _ p.3 p.4).1))) c.seek-next.ensures.0
    (λ h. c.seek-next.ensures.1 (omega arith))
