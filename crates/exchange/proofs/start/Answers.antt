-- `exchange::start` meets its contract: no byte is copied, and the search is from the first record on. Assumes nothing.
use mathlib.Core.Path.{refl}
use native.Mathlib.Omega.{arith}
use Rattle.exchange.proofs.Records.{first-place}
use Rattle.exchange.proofs.Cursors.{at-found}
use Rattle.exchange.proofs.start.Goals as goal

pub seek-place-requires : goal.seek-place-requires
seek-place-requires c = (c.requires.0, c.requires.2, c.requires.3, first-place _ c.requires.1)

pub returns : goal.returns
returns c = at-found _ _ c.requires.0 0 (first-place _ c.requires.1) (λ from to. refl) c.seek-place.ensures.0 (λ h. c.seek-place.ensures.1 (omega arith))
