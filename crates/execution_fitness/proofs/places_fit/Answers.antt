-- The map is that of the code, and no map is needed where there is none.
use mathlib.Core.Path.{refl}
use Rattle.execution_fitness.proofs.places_fit.Goals as goal

pub places_start-requires : goal.places_start-requires
places_start-requires c = (c.requires.0.start, λ h. absurd (h refl), c.requires.1)

pub starts-marks-requires : goal.starts-marks-requires
starts-marks-requires c = (c.requires.0.short, c.requires.0.accepted)

pub places_start-requires-2 : goal.places_start-requires-2
places_start-requires-2 c = (c.requires.0.start, λ _. c.starts-marks.ensures.1, c.requires.1)
