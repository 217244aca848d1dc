-- `snapshot::moves` meets its contract: the test by value, of the record's registers. Assumes nothing.
use mathlib.Core.Path.{sym, ap, ◌∙◌}
use Prim.Native.Nat.{ℕ}
use borrow.Author.Tests.{lt-ltb, le-ltb}
use Rattle.verdict.proofs.Verdict.{pick_true, pick-false}
use Rattle.semaphore.specs.Line.{semaphore_of}
use Rattle.table.specs.Table.{can_move}
use Rattle.snapshot.specs.Snapshot.{registers_in}
use Rattle.snapshot.proofs.moves.Goals as goal

pub returns-then-k-ge4 : goal.returns-then-k-ge4
returns-then-k-ge4 c = let a = c.args in
    c.can_move.ensures
    ∙ ap (can_move (semaphore_of a.r.semaphore) a.k 0) c.from.ensures
    ∙ ap (λ (n : ℕ). can_move (semaphore_of a.r.semaphore) a.k n (registers_in a.c)) (sym (pick-false _ _ _ (le-ltb a.k 4 c.if-k-ge4.true)))

pub returns : goal.returns
returns c = let a = c.args in
    c.can_move-2.ensures
    ∙ ap (can_move (semaphore_of a.r.semaphore) a.k _) c.from-2.ensures
    ∙ ap (λ (n : ℕ). can_move (semaphore_of a.r.semaphore) a.k n (registers_in a.c)) (sym (pick_true _ _ _ (lt-ltb a.k 4 c.if-k-ge4.false)))
