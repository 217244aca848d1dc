-- Case by case of the profile.
use mathlib.Core.Path.{sym, ap, ◌∙◌}
use Rattle.code.specs.Profiles.{types_at, carries}
use Rattle.code.specs.declared.Profile.{Profile}
use Rattle.code.proofs.is_carried.Goals as goal

pub returns-in-Small : goal.returns-in-Small
returns-in-Small c = c.is_small.ensures ∙ sym (ap (λ (o : Profile). carries o (types_at c.args.code.now c.args.p)) c.in-Small.is)
