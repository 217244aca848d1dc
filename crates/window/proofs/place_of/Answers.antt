-- `window::place_of` meets its contract. Assumes nothing.
use mathlib.Core.Path.{ap, ◌∙◌}
use lib.ListN.{get_or}
use Rattle.taskset.specs.declared.Layout.{Layout}
use Rattle.taskset.specs.declared.CoreLayout.{CoreLayout}
use Rattle.taskset.specs.Layout.{no_core}
use Rattle.taskset.proofs.Loading.{core-of}
use Rattle.window.proofs.place_of.Goals as goal

pub returns-in-Code : goal.returns-in-Code
returns-in-Code c = let a = c.args in
    rw c.in-Code.is (ap (λ (x : CoreLayout). record { base = x.code; size = x.length }) (ap (λ (l : Layout). get_or l.core a.k no_core) c.requires.0 ∙ core-of a.file.now a.k c.requires.1))

pub returns-in-Data : goal.returns-in-Data
returns-in-Data c = let a = c.args in
    rw c.in-Data.is (ap (λ (x : CoreLayout). record { base = x.base; size = x.size }) (ap (λ (l : Layout). get_or l.core a.k no_core) c.requires.0 ∙ core-of a.file.now a.k c.requires.1))
