-- `rikzord::rikzord_to_old` meets its contract: what the converter answers, the length where it is not refused. Assumes nothing.
use mathlib.Core.Path.{refl}
use Rattle.verdict.proofs.Refusals.{refused}
use Rattle.forms.proofs.Laws.{lent-refused, lent-granted}
use Rattle.rikzord.proofs.rikzord_to_old.Goals as goal

pub returns-in-Ok : goal.returns-in-Ok
returns-in-Ok c = lent-granted _ _ _ _ c.in-Ok.ensures refl

pub returns-in-Err : goal.returns-in-Err
returns-in-Err c = rw c.number.ensures.0 (lent-refused _ _ _ _ c.in-Err.ensures (refused _))
