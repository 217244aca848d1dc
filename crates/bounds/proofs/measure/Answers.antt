-- `bounds::measure` meets its contract. The loop's invariant, `Passing`: what is known of the places from p on. Assumes nothing.
use mathlib.Core.Path.{sym, ◌∙◌}
use native.Mathlib.Omega.{arith}
use Rattle.bounds.proofs.Back.{passing-none, passing-skip, passing-more, passing-end, passing-stop, in_map, here}
use Rattle.bounds.proofs.measure.Goals as goal

pub starts-starts-requires : goal.starts-starts-requires
starts-starts-requires c = (c.requires.1, c.requires.2)

pub loop-p-init : goal.loop-p-init
loop-p-init c = passing-none _ c.starts-starts.result _ _ c.requires c.starts-starts.ensures c.zeros-counts.ensures c.zeros-depths.ensures

pub bounds-starts-p : goal.bounds-starts-p
bounds-starts-p c = let pass = c.loop-p.invariant in omega (arith, in_map pass, pass.size, c.loop-p-test.true)

pub rises_at-requires : goal.rises_at-requires
rises_at-requires c = let h = here c.loop-p.invariant c.if-starts-p-eq1.true in (h.inside, h.fixed)

pub returns-then-not-rises_at : goal.returns-then-not-rises_at
returns-then-not-rises_at c = passing-stop c.loop-p.invariant c.if-starts-p-eq1.true (sym c.rises_at.ensures ∙ c.if-not-rises_at.true)

pub target_at-t-requires : goal.target_at-t-requires
target_at-t-requires c = let h = here c.loop-p.invariant c.if-starts-p-eq1.true in (h.inside, h.fixed)

pub offset_bounds-counts-t : goal.offset_bounds-counts-t
offset_bounds-counts-t c = let pass = c.loop-p.invariant in
    omega (arith, c.target_at-t.ensures, (here pass c.if-starts-p-eq1.true).there, pass.few)

pub bounds-counts-t : goal.bounds-counts-t
bounds-counts-t c = let pass = c.loop-p.invariant in
    omega (arith, c.target_at-t.ensures, (here pass c.if-starts-p-eq1.true).there, pass.few, pass.back.size_counts)

pub count_at-count-requires : goal.count_at-count-requires
count_at-count-requires c = (here c.loop-p.invariant c.if-starts-p-eq1.true).inside

pub offset_bounds-depths-t : goal.offset_bounds-depths-t
offset_bounds-depths-t c = let pass = c.loop-p.invariant in
    omega (arith, c.target_at-t.ensures, (here pass c.if-starts-p-eq1.true).there, pass.few)

pub bounds-depths-t : goal.bounds-depths-t
bounds-depths-t c = let pass = c.loop-p.invariant in
    omega (arith, c.target_at-t.ensures, (here pass c.if-starts-p-eq1.true).there, pass.few, pass.back.size-depths)

pub depth_at-depth-requires : goal.depth_at-depth-requires
depth_at-depth-requires c = (here c.loop-p.invariant c.if-starts-p-eq1.true).inside

pub offset_bounds-counts-p : goal.offset_bounds-counts-p
offset_bounds-counts-p c = omega (arith, in_map c.loop-p.invariant, c.loop-p-test.true)

pub bounds-counts-p : goal.bounds-counts-p
bounds-counts-p c = let pass = c.loop-p.invariant in
    omega (arith, in_map pass, pass.back.size_counts, c.loop-p-test.true)

pub offset_bounds-depths-p : goal.offset_bounds-depths-p
offset_bounds-depths-p c = omega (arith, in_map c.loop-p.invariant, c.loop-p-test.true)

pub bounds-depths-p : goal.bounds-depths-p
bounds-depths-p c = let pass = c.loop-p.invariant in
    omega (arith, in_map pass, pass.back.size-depths, c.loop-p-test.true)

pub loop-p-preserved-then-starts-p-eq1 : goal.loop-p-preserved-then-starts-p-eq1
loop-p-preserved-then-starts-p-eq1 c = passing-more c.loop-p.invariant _ _ _ c.loop-p-test.true c.if-starts-p-eq1.true
    (sym c.rises_at.ensures ∙ c.if-not-rises_at.false) c.target_at-t.ensures c.count_at-count.ensures c.depth_at-depth.ensures

pub loop-p-preserved : goal.loop-p-preserved
loop-p-preserved c = passing-skip c.loop-p.invariant c.loop-p-test.true c.if-starts-p-eq1.false

pub returns : goal.returns
returns c = passing-end c.loop-p.invariant (omega (arith, c.loop-p-test.false))
