-- `bounds::takes` meets its contract: a file is refused, or loaded and then measured. Assumes nothing.
use mathlib.Core.Path.{refl}
use Rattle.verdict.proofs.Refusals.{refused, handed}
use Rattle.taskset.proofs.Loading.{file-judged, file-accepted, file-laid}
use Rattle.bounds.proofs.Answer.{refused-file}
use Rattle.bounds.proofs.takes.Goals as goal

pub returns-in_err-layout : goal.returns-in_err-layout
returns-in_err-layout c = let file = c.args.file.now in
    rw (handed _ _ c.from_residual.ensures.1) (refused-file file _ (file-judged file _ c.in_err-layout.ensures) (refused _))

pub takes_in-requires : goal.takes_in-requires
takes_in-requires c = let file = c.args.file.now in
    (file-accepted file _ c.in_ok-layout.ensures refl, file-laid file _ c.in_ok-layout.ensures refl)
