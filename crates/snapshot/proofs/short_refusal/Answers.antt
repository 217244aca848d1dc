-- `snapshot::short_refusal` meets its contract: the file is judged first. Assumes nothing.
use mathlib.Core.Path.{refl, sym}
use Rattle.verdict.proofs.Verdict.{skip}
use Rattle.verdict.proofs.Refusals.{stop-refused}
use Rattle.snapshot.proofs.short_refusal.Goals as goal

pub returns-in-Ok : goal.returns-in-Ok
returns-in-Ok c = skip (sym c.in-Ok.ensures) refl

pub returns-in-Err : goal.returns-in-Err
returns-in-Err c = stop-refused _ _ c.in-Err.ensures
