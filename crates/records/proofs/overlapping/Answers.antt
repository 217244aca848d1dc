-- Shared memory, then each core's data.
use mathlib.Core.Path.{sym}
use Rattle.records.specs.Records.{overlap}
use Rattle.records.proofs.overlapping.Goals as goal

pub returns-then-meet_shared : goal.returns-then-meet_shared
unfolding overlap
returns-then-meet_shared c = rw (sym c.meet_shared.ensures, c.if-meet_shared.true)

pub returns-then-meet_in : goal.returns-then-meet_in
unfolding overlap
returns-then-meet_in c = rw (sym c.meet_shared.ensures, c.if-meet_shared.false, sym c.meet_in.ensures, c.if-meet_in.true)

pub returns-then-meet_in-2 : goal.returns-then-meet_in-2
unfolding overlap
returns-then-meet_in-2 c = rw (sym c.meet_shared.ensures, c.if-meet_shared.false, sym c.meet_in.ensures, c.if-meet_in.false, sym c.meet_in-2.ensures, c.if-meet_in-2.true)

pub returns-then-meet_in-3 : goal.returns-then-meet_in-3
unfolding overlap
returns-then-meet_in-3 c = rw (
  sym c.meet_shared.ensures,
  c.if-meet_shared.false,
  sym c.meet_in.ensures,
  c.if-meet_in.false,
  sym c.meet_in-2.ensures,
  c.if-meet_in-2.false,
  sym c.meet_in-3.ensures,
  c.if-meet_in-3.true,
)

pub returns : goal.returns
unfolding overlap
returns c = rw (
  sym c.meet_shared.ensures,
  c.if-meet_shared.false,
  sym c.meet_in.ensures,
  c.if-meet_in.false,
  sym c.meet_in-2.ensures,
  c.if-meet_in-2.false,
  sym c.meet_in-3.ensures,
  c.if-meet_in-3.false,
) c.meet_in-4.ensures
