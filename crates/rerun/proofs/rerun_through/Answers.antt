-- `rerun::rerun_through` meets its contract: the memories are copied out where nothing is refused. Assumes nothing.
use mathlib.Core.Path.{refl, ap₂, ◌∙◌}
use mathlib.Core.List.{[], List}
use Prim.Native.Nat.{ℕ}
use Rattle.runner.specs.Runs.{left_as}
use Rattle.machine.specs.Calls.{lent_fits}
use Rattle.rerun.proofs.Ends.{copied-out, rerun-done, rerun-left}
use Rattle.rerun.proofs.rerun_through.Goals as goal

pub rerun_in-x-requires : goal.rerun_in-x-requires
rerun_in-x-requires c = let given = c.requires in
    record {
      accepted = given.0.accepted;
      laid = given.0.laid;
      tasked = given.0.tasked;
      fits = ap₂ (λ (m n : ℕ). lent_fits c.args.file.now m n) given.1 given.2 ∙ given.0.fits;
    }

pub returns-then-x-eq0 : goal.returns-then-x-eq0
returns-then-x-eq0 c = let a = c.args in
    ap₂ (λ (l m : List ℕ). left_as c.rerun_in-x.result l m [])
    (copied-out _ _ _ c.copy.ensures (c.rerun_in-x.auto.buffer ∙ c.requires.1) refl)
    (copied-out _ _ _ c.copy-then-x-eq0.ensures (c.rerun_in-x.auto.shared ∙ c.requires.2) refl)
    ∙ rerun-done a.file.now a.trace.now a.list.now a.buffer.now a.shared.now c.requires.0.accepted.file c.requires.0.fits
    c.requires.0.accepted.trace c.rerun_in-x.result _ _ c.rerun_in-x.ensures c.if-x-eq0.true

pub returns-else-x-eq0 : goal.returns-else-x-eq0
returns-else-x-eq0 c = let a = c.args in
    rerun-left a.file.now a.trace.now a.list.now a.buffer.now a.shared.now c.requires.0.accepted.file c.requires.0.fits
    c.requires.0.accepted.trace c.rerun_in-x.result _ _ c.rerun_in-x.ensures c.if-x-eq0.false
