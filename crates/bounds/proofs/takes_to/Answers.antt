-- `bounds::takes_to` meets its contract: nothing is written before the refusal is known. Assumes nothing.
use mathlib.Core.Path.{refl}
use native.Mathlib.Omega.{arith}
use lib.ListN.{length}
use Rattle.verdict.proofs.Refusals.{refused, handed}
use Rattle.bounds.proofs.Outputs.{own_first, too_short, long-enough, output-refused, room, output-done}
use Rattle.bounds.proofs.takes_to.Goals as goal

pub returns-in_err-taken : goal.returns-in_err-taken
returns-in_err-taken c = let own = own_first _ _ _ _ (refused _) in
    let kept = output-refused c.args.file.now _ _ _ _ _ c.in_err-taken.ensures own (refused _) in
    rw (handed _ _ c.from_residual.ensures.1) kept

pub returns-then-lengths-lt3 : goal.returns-then-lengths-lt3
returns-then-lengths-lt3 c = let lent = c.args in
    output-refused lent.file.now _ _ _ _ 21 c.in_ok-taken.ensures
    (too_short _ (length lent.lengths.now) (length lent.counts.now) (length lent.depths.now) refl (λ a b d. let z : ⊥ = omega arith in z))
    (λ e. absurd (let z : ⊥ = omega arith in z))

pub put_column-requires : goal.put_column-requires
put_column-requires c = let taken = c.in_ok-taken.ensures in
    let lent = c.args in
    let x = room lent.file.now lent.lengths.now lent.counts.now lent.depths.now _ 0 taken (long-enough _ _ _ _ refl (omega arith) (omega arith) (omega arith)) refl in
    (x.for-counts, x.of-counts)

pub put_column-requires-2 : goal.put_column-requires-2
put_column-requires-2 c = let taken = c.in_ok-taken.ensures in
    let lent = c.args in
    let x = room lent.file.now lent.lengths.now lent.counts.now lent.depths.now _ 0 taken (long-enough _ _ _ _ refl (omega arith) (omega arith) (omega arith)) refl in
    (x.for-depths, x.of-depths)

pub returns : goal.returns
returns c = output-done c.args.file.now _ _ _ _ 0 c.in_ok-taken.ensures (long-enough _ _ _ _ refl (omega arith) (omega arith) (omega arith)) refl _ _ _
    c.put_lengths.ensures c.put_column.ensures c.put_column-2.ensures
