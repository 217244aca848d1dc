-- The four local places stand two bytes apart.
use mathlib.Core.Path.{◌∙◌}
use Rattle.records.proofs.Laws.{local_at}
use Rattle.records.proofs.local_place.Goals as goal

pub returns : goal.returns
returns c = c.word.ensures ∙ local_at c.args.f.now c.args.p c.args.k c.requires.1
