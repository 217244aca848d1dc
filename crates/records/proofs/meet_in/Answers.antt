-- The places meet, and both are named.
use mathlib.Core.Path.{sym, ◌∙◌}
use Rattle.records.specs.Records.{meets_in}
use Rattle.records.proofs.Laws.{both-alone, both-none}
use Rattle.records.proofs.meet_in.Goals as goal

pub returns-then-not-meet : goal.returns-then-not-meet
unfolding meets_in
returns-then-not-meet c = rw (
  sym c.local_place.ensures,
  sym c.width.ensures,
  sym c.local_place-2.ensures,
  sym c.width-2.ensures,
  sym c.meet.ensures ∙ c.if-not-meet.true,
  both-none,
  both-none,
)

pub returns-then-not-is_named : goal.returns-then-not-is_named
unfolding meets_in
returns-then-not-is_named c = rw (sym c.is_named.ensures ∙ c.if-not-is_named.true)

pub returns : goal.returns
unfolding meets_in
returns c = rw (
  sym c.is_named.ensures ∙ c.if-not-is_named.false,
  sym c.is_named-2.ensures,
  sym c.local_place.ensures,
  sym c.width.ensures,
  sym c.local_place-2.ensures,
  sym c.width-2.ensures,
  sym c.meet.ensures ∙ c.if-not-meet.false,
) (sym (both-alone _))
