-- `machine::fresh` meets its contract: it is the call under the full profile. Assumes nothing.
use mathlib.Core.Path.{◌∙◌}
use Rattle.machine.proofs.Calls.{fresh-full}
use Rattle.machine.proofs.fresh_state.fresh.Goals as goal

pub returns : goal.returns
returns c = let a = c.args in
    c.fresh_for.ensures ∙ fresh-full a.file.now a.buffer.now a.shared.now
