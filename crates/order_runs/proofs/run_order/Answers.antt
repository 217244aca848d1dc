-- `order_runs::run_order` meets its contract. The invariant: what is left of the order makes of the state now what the whole makes of the first one.
-- Assumes nothing.
use borrow.Author.Rules.{rules}
use Prim.Native.Nat.{◌-◌, ◌<◌}
use mathlib.Core.Path.{refl, sym, ap, ◌∙◌}
use native.Mathlib.Omega.{arith}
use lib.ListN.{length, get_or, set}
use Rattle.records.specs.File.{cores as core_count}
use Rattle.states.specs.Machine.{no_registers}
use Rattle.semaphore.specs.Line.{semaphore_of, waits_at}
use Rattle.steps.proofs.Given.{at-instruction, limit-low}
use Rattle.runner.specs.Running.{single_at}
use Rattle.order.proofs.Stretches.{steps_on_lem}
use Rattle.runner.proofs.Running.{below_at}
use Rattle.runner.proofs.Loop.{looping-start, moving, shared-length, line-once}
use Rattle.runner.proofs.Exchanging.{line-ready, exchange-arm}
use Rattle.runner.proofs.Carrying.{stands, waited}
use Rattle.runner.proofs.Bytes.{ahead-few, bytes-arm}
use Rattle.runner.proofs.End.{looping-end}
use Rattle.order_runs.proofs.run_order.Goals as goal
use Rattle.order_runs.proofs.run_order.Goals.{in-Advanced, in-Otherwise}

-- where the core of a step is known
pub loop-i-init : goal.loop-i-init
loop-i-init c = looping-start c.requires c.table_of-all.ensures c.places_of.ensures c.offsets_of.ensures c.line_of-line.ensures

pub core_at-k-requires : goal.core_at-k-requires
core_at-k-requires c = (c.loop-i-test.true, below_at (core_count c.args.file.now) c.args.order.now c.loop-i.i c.requires.below c.loop-i-test.true, c.requires.accepted.few)

pub is_single-requires : goal.is_single-requires
is_single-requires c =
    (at-instruction (moving c.requires c.loop-i.invariant.0 c.core_at-k.ensures.1).ready, c.loop-i-test.true)

pub run_single-requires : goal.run_single-requires
run_single-requires c =
    let here = moving c.requires c.loop-i.invariant.0 c.core_at-k.ensures.1 in
    let single = c.is_single.ensures c.if-is_single.true in
    (record { ready = here.ready; buffer = here.buffer; executes = c.if-all-k-eq-EXECUTING.true; below-limit = single.0; command = refl }, single.1)

pub advanced-requires : goal.advanced-requires
advanced-requires c =
    let limit = limit-low (moving c.requires c.loop-i.invariant.0 c.core_at-k.ensures.1).ready in
    omega (arith, limit.0, limit.1, (c.is_single.ensures c.if-is_single.true).0)

pub overflow_add-i : goal.overflow_add-i
overflow_add-i c = let good = c.well_formed in omega (arith, c.loop-i-test.true)

pub loop-i-smaller-then-is_single : goal.loop-i-smaller-then-is_single
loop-i-smaller-then-is_single c = omega (arith, c.loop-i-test.true)

pub loop-i-preserved-then-is_single : goal.loop-i-preserved-then-is_single
loop-i-preserved-then-is_single c =
    let here = c.loop-i.invariant in
    let on = steps_on_lem c.args.order.now c.loop-i.i c.core_at-k.result c.loop-i-test.true c.core_at-k.ensures.0 in
    let carried = c.run_single.ensures c.args.order.now c.loop-i.i on _ _ _ _ _ _ _ _ _ _ _ refl here.0 in
    elim c.match-run_single.branch [
      | in-Advanced w ↦ (rw (w.all-is ∙ ap (set c.loop-i.all c.core_at-k.result) (w.advanced.ensures ∙ sym (ap (single_at (get_or c.loop-i.all c.core_at-k.result no_registers)) w.in-Advanced.is))) carried, here.1)
      | in-Otherwise w ↦ (rw (w.all-is ∙ ap (set c.loop-i.all c.core_at-k.result) (sym (ap (single_at (get_or c.loop-i.all c.core_at-k.result no_registers)) w.in-Otherwise.is))) carried, here.1)
    ]

pub run_core-x-requires : goal.run_core-x-requires
run_core-x-requires c = (
  stands c.requires.accepted c.loop-i.invariant.0 c.core_at-k.ensures.1,
  c.requires.tasked _ c.core_at-k.ensures.1,
  steps_on_lem c.args.order.now c.loop-i.i c.core_at-k.result c.loop-i-test.true c.core_at-k.ensures.0,
  c.if-all-k-eq-EXECUTING.true,
)

pub offset_bounds-all-k-else-is_single-3 : goal.offset_bounds-all-k-else-is_single-3
offset_bounds-all-k-else-is_single-3 c = search (rules, c.core_at-k.ensures.2)

pub bounds-all-k-else-is_single-3 : goal.bounds-all-k-else-is_single-3
bounds-all-k-else-is_single-3 c = search (rules, c.core_at-k.ensures.2)

pub loop-i-smaller-else-is_single : goal.loop-i-smaller-else-is_single
loop-i-smaller-else-is_single c = omega (arith, c.loop-i-test.true, c.run_core-x.ensures.onward)

pub loop-i-preserved-else-is_single : goal.loop-i-preserved-else-is_single
loop-i-preserved-else-is_single c = let here = c.loop-i.invariant in (rw c.reached_at.ensures (c.run_core-x.ensures.carries _ _ _ _ _ _ _ _ _ _ _ refl here.0), here.1)

pub waits-requires : goal.waits-requires
waits-requires c = (c.loop-i.invariant.1, c.core_at-k.ensures.2)

pub overflow_add-i-then-waits : goal.overflow_add-i-then-waits
overflow_add-i-then-waits c = let good = c.well_formed in omega (arith, c.loop-i-test.true)

pub past_waiting-i-requires : goal.past_waiting-i-requires
past_waiting-i-requires c = let here = c.loop-i.invariant in
    (omega (arith, c.loop-i-test.true), (λ j. below_at (core_count c.args.file.now) c.args.order.now j c.requires.below), c.requires.accepted.few, here.1)

pub loop-i-smaller-then-waits : goal.loop-i-smaller-then-waits
loop-i-smaller-then-waits c = omega (arith, c.loop-i-test.true, c.past_waiting-i.ensures.0)

pub loop-i-preserved-then-waits : goal.loop-i-preserved-then-waits
loop-i-preserved-then-waits c = let here = c.loop-i.invariant in
    let passed = c.past_waiting-i.ensures in
    let waits = ap (waits_at (semaphore_of c.loop-i.line.semaphore)) (sym c.core_at-k.ensures.0) ∙ sym c.waits.ensures ∙ c.if-waits.true in
    (waited c.requires.accepted c.requires.below here.0 c.loop-i-test.true waits c.past_waiting-i.result passed.0 passed.1 passed.2, here.1)

pub steps_ahead-m-requires : goal.steps_ahead-m-requires
steps_ahead-m-requires c = (c.loop-i-test.true, c.core_at-k.ensures.2)

pub move_bytes-cursor-requires : goal.move_bytes-cursor-requires
move_bytes-cursor-requires c = (moving c.requires c.loop-i.invariant.0 c.core_at-k.ensures.1, c.steps_ahead-m.ensures.0 c.if-m-gt0.true)

pub bytes_on-requires : goal.bytes_on-requires
bytes_on-requires c = ahead-few (moving c.requires c.loop-i.invariant.0 c.core_at-k.ensures.1).ready _ (c.steps_ahead-m.ensures.0 c.if-m-gt0.true)

pub offset_bounds-all-k-then-m-gt0 : goal.offset_bounds-all-k-then-m-gt0
offset_bounds-all-k-then-m-gt0 c = search (rules, c.core_at-k.ensures.2)

pub bounds-all-k-then-m-gt0 : goal.bounds-all-k-then-m-gt0
bounds-all-k-then-m-gt0 c = search (rules, c.core_at-k.ensures.2)

pub overflow_add-i-then-m-gt0 : goal.overflow_add-i-then-m-gt0
overflow_add-i-then-m-gt0 c = let good = c.well_formed in omega (arith, c.steps_ahead-m.ensures.1)

pub loop-i-smaller-then-m-gt0 : goal.loop-i-smaller-then-m-gt0
loop-i-smaller-then-m-gt0 c = let below = c.loop-i-test.true in omega (arith, c.if-m-gt0.true)

pub loop-i-preserved-then-m-gt0 : goal.loop-i-preserved-then-m-gt0
loop-i-preserved-then-m-gt0 c = let ahead = c.steps_ahead-m.ensures in
    let core-in = c.core_at-k.ensures.1 in
    let given = c.requires in
    let here = c.loop-i.invariant in (
      bytes-arm here.0 given.accepted core-in (given.tasked _ core-in) (ahead.0 c.if-m-gt0.true) ahead.1 ahead.2 c.move_bytes-cursor.ensures
          (search (rules, c.buffer-then-m-gt0-1.given)) c.bytes_on.ensures refl refl,
      here.1,
    )

pub exchange_of-z-requires : goal.exchange_of-z-requires
exchange_of-z-requires c = (moving c.requires c.loop-i.invariant.0 c.core_at-k.ensures.1, c.if-all-k-eq-EXECUTING.false)

pub registers_after-requires : goal.registers_after-requires
registers_after-requires c = (c.exchange_of-z.ensures.0 (semaphore_of c.loop-i.line.semaphore) (sym c.turn-turn.ensures)).does.ready

pub offset_bounds-all-k-else-m-gt0 : goal.offset_bounds-all-k-else-m-gt0
offset_bounds-all-k-else-m-gt0 c = search (rules, c.core_at-k.ensures.2)

pub bounds-all-k-else-m-gt0 : goal.bounds-all-k-else-m-gt0
bounds-all-k-else-m-gt0 c = search (rules, c.core_at-k.ensures.2)

pub line_after-line-requires : goal.line_after-line-requires
line_after-line-requires c = let here = c.loop-i.invariant in
    let free = sym c.waits.ensures ∙ c.if-waits.false in (
      here.1,
      c.core_at-k.ensures.2,
      line-once here.0,
      line-ready here.0 here.1 c.requires.accepted c.core_at-k.ensures.1 c.exchange_of-z.result c.turn-turn.result c.turn-turn.ensures free c.exchange_of-z.ensures.1,
    )

pub cursor_after-cursor-requires : goal.cursor_after-cursor-requires
cursor_after-cursor-requires c = let given = c.requires in (given.accepted.laid, given.from, given.upto, c.core_at-k.ensures.2)

pub list_taking-taken-requires : goal.list_taking-taken-requires
list_taking-taken-requires c =
    let room : c.loop-i.taken < length c.loop-i.list =
    omega (arith, c.loop-i.invariant.0.running.room, c.loop-i.invariant.0.running.list_length, c.requires.room, c.loop-i-test.true) in
    (room, c.core_at-k.ensures.2)

pub overflow_add-i-else-m-gt0 : goal.overflow_add-i-else-m-gt0
overflow_add-i-else-m-gt0 c = let good = c.well_formed in omega (arith, c.loop-i-test.true)

pub loop-i-smaller : goal.loop-i-smaller
loop-i-smaller c = omega (arith, c.loop-i-test.true)

pub loop-i-preserved : goal.loop-i-preserved
loop-i-preserved c = let here = c.loop-i.invariant in
    let z = c.exchange_of-z.result in
    let answered = c.exchange_of-z.ensures in
    let may = c.turn-turn.ensures in
    let ready = line-ready here.0 here.1 c.requires.accepted c.core_at-k.ensures.1 z c.turn-turn.result may (sym c.waits.ensures ∙ c.if-waits.false) answered.1 in
    exchange-arm here.0 here.1 c.requires.accepted c.core_at-k.ensures.1 c.loop-i-test.true c.core_at-k.ensures.0 z (answered.0 (semaphore_of c.loop-i.line.semaphore) (sym may))
    (search (rules, c.buffer-else-m-gt0-1.given)) c.turn-turn.result answered.1 ready c.registers_after.ensures refl c.line_after-line.ensures c.cursor_after-cursor.ensures c.list_taking-taken.ensures

pub shape_of-buffer : goal.shape_of-buffer
shape_of-buffer c = c.loop-i.invariant.0.running.buffer ∙ sym c.requires.buffer

pub shape_of-shared : goal.shape_of-shared
shape_of-shared c = shared-length c.requires c.loop-i.invariant.0

pub shape_of-list : goal.shape_of-list
shape_of-list c = c.loop-i.invariant.0.running.list_length

pub returns : goal.returns
returns c = rw c.ran.ensures (looping-end c.requires c.loop-i.invariant.0 c.loop-i.invariant.1 c.loop-i-test.false)
