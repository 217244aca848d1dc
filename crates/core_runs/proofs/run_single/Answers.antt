-- `core_runs::run_single` meets its contract: one law for each outcome, whatever order the step stands in. Assumes nothing.
use mathlib.Core.Path.{◌≡◌, refl, ◌∙◌}
use mathlib.Core.Bool.{true}
use mathlib.Core.Logic.{◌≢◌}
use mathlib.Core.List.{[], List, ◌∷◌}
use Prim.Native.Nat.{ℕ, ◌-◌, ◌<◌}
use native.Mathlib.Omega.{arith}
use lib.ListN.{length}
use borrow.Author.Rules.{rules}
use borrow.Author.Tests.{eq-eqb}
use Rattle.protocol.specs.declared.Outcome.{Outcome}
use Rattle.protocol.specs.declared.Outcome.TheVariants.{Return as Returns}
use Rattle.protocol.specs.declared.Registers.{Registers}
use Rattle.protocol.specs.Registers.{returned}
use Rattle.states.specs.declared.CoreTask.{CoreTask}
use Rattle.steps.specs.Moving.{InstructionGiven}
use Rattle.steps.specs.Effects.{Takes, effect_of, InstructsIn}
use Rattle.steps.proofs.Given.{at-instruction}
use Rattle.order.specs.Order.{steps_on}
use Rattle.runner.proofs.Carrying.{carry-none, carries-as, Instructed, ended-takes, returned-takes, takes-outcome, carry-next, carry-fault, carry-ended, carry-call, carry-return}
use Rattle.core_runs.proofs.run_single.Goals as goal

-- where the instruction has answered
module _ {f t d d' : List ℕ} {k op : ℕ} {a : CoreTask} {r : Registers} {o : Outcome} (given : InstructionGiven f t k a r d op) (answered : InstructsIn f t k r d o d')
    (same : length d' ≡ length d) where
  done-in : (places offsets order : List ℕ) (i : ℕ) → steps_on order i k ≡ true → Instructed f t order k i r places offsets d i r places offsets d o d'
  done-in places offsets order i on = record {
    accepted = given.ready.accepted;
    on = on;
    known = given.ready.known;
    carried = carry-none _ _ _ _ _ _ _ _ _;
    answered = answered;
    same = same;
  }

  -- what the registers can take hangs on no order: that of an order with this step alone
  alone : Instructed f t (k ∷ []) k 0 r [] [] d 0 r [] [] d o d'
  alone = done-in [] [] (k ∷ []) 0 (eq-eqb k k refl)

  takes-here : {o' : Outcome} → o ≡ o' → Takes r (effect_of r.depth o')
  takes-here {o'} e = takes-outcome alone o' e

  ended-here : o ≡ Returns → r.depth ≡ 0 → r.count < 65535
  ended-here = ended-takes alone

  returned-here : o ≡ Returns → r.depth ≢ 0 → (r.count < 65535) × (r.depth < 17)
  returned-here = returned-takes alone

few-here : {f t d : List ℕ} {k op : ℕ} {a : CoreTask} {r : Registers} → InstructionGiven f t k a r d op → k < 4
few-here given = omega (arith, given.ready.known, given.ready.accepted.few)

pub command_of-op-requires : goal.command_of-op-requires
command_of-op-requires c = at-instruction c.requires.0.ready

pub frequent_of-requires : goal.frequent_of-requires
frequent_of-requires c = let here = c.command_of-op.ensures.0 in (rw here c.requires.0, rw here c.requires.1)

pub faulted-requires : goal.faulted-requires
faulted-requires c = takes-here c.requires.0 c.frequent_of.ensures (search rules) c.in-Fault.is

pub set_entry-requires : goal.set_entry-requires
set_entry-requires c = (few-here c.requires.0, (takes-here c.requires.0 c.frequent_of.ensures (search rules) c.in-Call.is).1)

pub set_entry-requires-in-Call : goal.set_entry-requires-in-Call
set_entry-requires-in-Call c = (few-here c.requires.0, (takes-here c.requires.0 c.frequent_of.ensures (search rules) c.in-Call.is).1)

pub called-requires : goal.called-requires
called-requires c = let room = takes-here c.requires.0 c.frequent_of.ensures (search rules) c.in-Call.is in (room.0, omega (arith, room.1))

pub cycle_ended-requires : goal.cycle_ended-requires
cycle_ended-requires c = ended-here c.requires.0 c.frequent_of.ensures (search rules) c.in-Return.is c.if-r-eq0.true

pub returns-then-r-eq0 : goal.returns-then-r-eq0
returns-then-r-eq0 c order i on =
    carries-as c.cycle_ended.ensures refl refl refl
    (carry-ended (done-in c.requires.0 c.frequent_of.ensures (search rules) _ _ order i on) c.in-Return.is c.if-r-eq0.true)

pub take_entry-place-requires : goal.take_entry-place-requires
take_entry-place-requires c =
    (few-here c.requires.0, omega (arith, (returned-here c.requires.0 c.frequent_of.ensures (search rules) c.in-Return.is c.if-r-eq0.false).1))

pub take_entry-offset-requires : goal.take_entry-offset-requires
take_entry-offset-requires c =
    (few-here c.requires.0, omega (arith, (returned-here c.requires.0 c.frequent_of.ensures (search rules) c.in-Return.is c.if-r-eq0.false).1))

pub returned-requires : goal.returned-requires
returned-requires c =
    ((returned-here c.requires.0 c.frequent_of.ensures (search rules) c.in-Return.is c.if-r-eq0.false).0, omega (arith, c.if-r-eq0.false))

pub returns-in-Fault : goal.returns-in-Fault
returns-in-Fault c order i on =
    carries-as c.faulted.ensures refl refl refl
    (carry-fault (done-in c.requires.0 c.frequent_of.ensures (search rules) _ _ order i on) _ c.in-Fault.is)

pub returns-in-Next : goal.returns-in-Next
returns-in-Next c order i on = carry-next (done-in c.requires.0 c.frequent_of.ensures (search rules) _ _ order i on) _ c.in-Next.is

pub returns-in-Call : goal.returns-in-Call
returns-in-Call c order i on =
    carries-as c.called.ensures c.set_entry.ensures c.set_entry-in-Call.ensures refl
    (carry-call (done-in c.requires.0 c.frequent_of.ensures (search rules) _ _ order i on) _ _ _ c.in-Call.is)

pub returns-else-r-eq0 : goal.returns-else-r-eq0
returns-else-r-eq0 c order i on =
    let r = c.args.r in
    let place = c.take_entry-place.ensures in
    let offset = c.take_entry-offset.ensures in
    carries-as (c.returned.ensures ∙ (λ j. returned (place.0 j) (offset.0 j) r)) place.1 offset.1 refl
    (carry-return (done-in c.requires.0 c.frequent_of.ensures (search rules) _ _ order i on) (r.depth - 1) c.in-Return.is (omega (arith, c.if-r-eq0.false)))
