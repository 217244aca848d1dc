-- `runs::run_judged` meets its contract: what judging has shown is what the run of an order is given. Assumes nothing.
use mathlib.Core.Path.{sym, ap, ◌∙◌}
use native.Mathlib.Omega.{arith}
use lib.ListN.{length}
use Rattle.runs.proofs.Judged.{few-variables, near_first, aim-given, run-given}
use Rattle.runs.proofs.run_judged.Goals as goal

pub overflow_mul-end : goal.overflow_mul-end
overflow_mul-end c = let a = c.args in
    omega (arith, few-variables a.file.now a.trace.now a.s a.buffer.now a.shared.now a.order.now a.list.now c.requires.2 a.layout c.requires.0)

pub overflow_add-end : goal.overflow_add-end
overflow_add-end c = let a = c.args in
    omega (
      arith,
      few-variables a.file.now a.trace.now a.s a.buffer.now a.shared.now a.order.now a.list.now c.requires.2 a.layout
          c.requires.0,
      near_first a.file.now a.trace.now a.s a.buffer.now a.shared.now a.order.now a.list.now c.requires.2 a.layout
          c.requires.0,
    )

pub aim_of-aim-requires : goal.aim_of-aim-requires
aim_of-aim-requires c = let a = c.args in
    aim-given a.file.now a.trace.now a.s a.buffer.now a.shared.now a.order.now a.list.now c.requires.2 a.layout c.requires.0
    (λ i. omega (arith, c.type_inv.file i)) (λ i. omega (arith, c.type_inv.trace i))
    (ap length (sym c.places_of-places.ensures.0) ∙ c.places_of-places.ensures.1) (ap length (sym c.offsets_of-offsets.ensures.0) ∙ c.offsets_of-offsets.ensures.1)

pub run_order-requires : goal.run_order-requires
run_order-requires c = let a = c.args in
    run-given a.file.now a.trace.now a.s a.buffer.now a.shared.now a.order.now a.list.now c.requires.2 a.layout c.requires.0
    (λ i. omega (arith, c.type_inv.file i)) (λ i. omega (arith, c.type_inv.trace i))
    (ap length (sym c.places_of-places.ensures.0) ∙ c.places_of-places.ensures.1) (ap length (sym c.offsets_of-offsets.ensures.0) ∙ c.offsets_of-offsets.ensures.1)
    _ c.requires.1 _ c.aim_of-aim.ensures
