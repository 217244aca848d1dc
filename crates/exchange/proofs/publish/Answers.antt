-- `exchange::publish` meets its contract: the cursor is at the byte that is next in the writing. Assumes nothing.
use mathlib.Core.Logic.{inl}
use native.Mathlib.Omega.{arith}
use Rattle.exchange.proofs.Cursors.{record-whole, byte-few, shared-fits, local_fits, writes-next, copied}
use Rattle.exchange.proofs.publish.Goals as goal

pub byte_place-from-requires : goal.byte_place-from-requires
byte_place-from-requires c = let p = c.requires in
    (omega (arith, record-whole _ _ p.2 p.3 p.0, p.0.few-cores), byte-few _ _ p.2 p.3 p.0)

pub byte_place-to-requires : goal.byte_place-to-requires
byte_place-to-requires c = let p = c.requires in
    (omega (arith, record-whole _ _ p.2 p.3 p.0), byte-few _ _ p.2 p.3 p.0)

pub bounds-d-from : goal.bounds-d-from
bounds-d-from c = let p = c.requires in
    omega (arith, c.byte_place-from.ensures, local_fits _ _ p.2 p.3 p.0 _ p.1 (λ q e. inl e))

pub bounds-shared-to : goal.bounds-shared-to
bounds-shared-to c = let p = c.requires in
    omega (arith, c.byte_place-to.ensures, shared-fits _ _ p.2 p.3 p.0)

pub returns : goal.returns
returns c = let p = c.requires in
    copied _ _ (writes-next _ p.0 p.1 p.2 p.3) c.byte_place-to.ensures c.byte_place-from.ensures
