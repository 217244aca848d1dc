-- `window::check_window` meets its contract. Assumes nothing.
use lib.ListN.{length}
use Rattle.verdict.proofs.Refusals.{handed_on}
use Rattle.window.proofs.Laws.{number-found}
use Rattle.window.proofs.check_window.Goals as goal

pub returns-in_err-find_window : goal.returns-in_err-find_window
returns-in_err-find_window c = let a = c.args in
    handed_on _ _ c.from_residual.ensures.1 (number-found a.file.now (length a.buffer.now) a.shown a.core a.start a.count c.in_err-find_window.ensures)

pub returns : goal.returns
returns c = let a = c.args in
    number-found a.file.now (length a.buffer.now) a.shown a.core a.start a.count c.in_ok-find_window.ensures
