-- `rikzord::rikzord_data_window` meets its contract: the number and the place that the window is found to have. Assumes nothing.
use mathlib.Core.Path.{refl}
use lib.ListN.{length}
use Rattle.verdict.proofs.Refusals.{refused}
use Rattle.window.specs.declared.Shown.TheVariants.{Data}
use Rattle.window.proofs.Laws.{call-refused, call-shown}
use Rattle.rikzord.proofs.rikzord_data_window.Goals as goal

pub returns-in-Ok : goal.returns-in-Ok
returns-in-Ok c = let a = c.args in
    call-shown a.file.now (length a.buffer.now) Data a.core a.start a.count c.in-Ok.ensures a.place.now refl

pub returns-in-Err : goal.returns-in-Err
returns-in-Err c = let a = c.args in
    rw c.number.ensures.0 (call-refused a.file.now (length a.buffer.now) Data a.core a.start a.count c.in-Err.ensures a.place.now (refused _))
