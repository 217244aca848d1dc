-- `cycles::any_ring` meets its contract: the lines between the cores, and whether they close a ring. Assumes nothing.
use mathlib.Core.Path.{◌∙◌}
use Rattle.taskset.specs.Task.{variables_of}
use Rattle.cycles.specs.Rings.{closed}
use Rattle.cycles.proofs.Rings.{rings-closed}
use Rattle.cycles.proofs.any_ring.Goals as goal

pub returns : goal.returns
returns c = c.closed.ensures
    ∙ (λ z. closed (c.line_between-l01.ensures z) (c.line_between-l02.ensures z) (c.line_between-l03.ensures z) (c.line_between-l12.ensures z) (c.line_between-l13.ensures z) (c.line_between-l23.ensures z))
    ∙ rings-closed (variables_of c.args.file.now)
