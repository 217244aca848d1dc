-- `starts::base_of` meets its contract. Assumes nothing.
use mathlib.Core.Path.{ap, ◌∙◌}
use lib.ListN.{get_or}
use Rattle.taskset.specs.declared.Layout.{Layout}
use Rattle.taskset.specs.declared.CoreLayout.{CoreLayout}
use Rattle.taskset.specs.Layout.{no_core}
use Rattle.taskset.proofs.Loading.{core-of}
use Rattle.starts.proofs.base_of.Goals as goal

pub returns : goal.returns
returns c = let a = c.args in ap (λ (x : CoreLayout). x.base) (ap (λ (l : Layout). get_or l.core a.k no_core) c.requires.0 ∙ core-of a.f.now a.k c.requires.1)
