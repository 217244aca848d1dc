-- Their shared places meet.
use mathlib.Core.Path.{sym}
use Rattle.records.specs.Records.{meets_shared}
use Rattle.records.proofs.meet_shared.Goals as goal

pub returns : goal.returns
unfolding meets_shared
returns c = rw (sym c.shared_place.ensures, sym c.width.ensures, sym c.shared_place-2.ensures, sym c.width-2.ensures) c.meet.ensures
