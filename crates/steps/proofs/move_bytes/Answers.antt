-- The stretch that is lent is the data of core k, and the others stay. Assumes nothing.
use mathlib.Core.Path.{refl, ap, ◌∙◌}
use mathlib.Core.List.{List}
use Prim.Native.Nat.{ℕ}
use native.Mathlib.Omega.{arith}
use lib.ListN.{length}
use Rattle.steps.proofs.Given.{stretch-inside, stretch-is, reading-ahead, writing-ahead, bytes-read-in, bytes-written-in}
use Rattle.steps.proofs.move_bytes.Goals as goal

pub overflow_add-e : goal.overflow_add-e
overflow_add-e c = let p = c.requires.0 in
    record { fits = omega (arith, stretch-inside _ p.ready p.buffer) }

pub slice_bounds-bring_bytes-end : goal.slice_bounds-bring_bytes-end
slice_bounds-bring_bytes-end c = let p = c.requires.0 in
    omega (arith, stretch-inside _ p.ready p.buffer)

pub bring_bytes-requires : goal.bring_bytes-requires
bring_bytes-requires c = let q = c.requires in
    let p = q.0 in
    let m = c.if-r-eq-READING.true in
    (p.ready.accepted.laid, p.ready.known, p.upto, p.aimed.reading m, reading-ahead p.ready _ q.1 m, ap (λ (l : List ℕ). length l) (stretch-is _ p.ready p.buffer _ refl) ∙ p.ready.fit.size, p.shared)

pub returns-then-r-eq-READING : goal.returns-then-r-eq-READING
returns-then-r-eq-READING c = let a = c.args in
    let p = c.requires.0 in
    let m = c.if-r-eq-READING.true in
    record {
      reading = λ e. (c.bring_bytes.ensures.0, bytes-read-in _ p.ready p.buffer _ refl a.r.exchange a.count _ a.shared.now c.bring_bytes.ensures.1 c.bring_bytes.auto.d, refl);
      writing = λ e. absurd (omega (arith, m, e));
    }

pub slice_bounds-publish_bytes-end : goal.slice_bounds-publish_bytes-end
slice_bounds-publish_bytes-end c = let p = c.requires.0 in
    omega (arith, stretch-inside _ p.ready p.buffer)

pub publish_bytes-requires : goal.publish_bytes-requires
publish_bytes-requires c = let q = c.requires in
    let p = q.0 in
    let m = writing-ahead p.ready _ q.1 c.if-r-eq-READING.false in
    (p.ready.accepted.laid, p.ready.known, p.upto, p.aimed.writing m.0, m.1, ap (λ (l : List ℕ). length l) (stretch-is _ p.ready p.buffer _ refl) ∙ p.ready.fit.size, p.shared)

pub returns : goal.returns
returns c = let a = c.args in
    let p = c.requires.0 in
    record {
      reading = λ e. absurd (c.if-r-eq-READING.false e);
      writing = λ e. (c.publish_bytes.ensures.0, bytes-written-in _ p.ready p.buffer _ refl a.r.exchange a.count a.shared.now _ c.publish_bytes.ensures.1, refl);
    }
