-- `rerun::rerun_in` meets its contract. The invariant: the takings so far are legal, and made the state now. Assumes nothing.
use mathlib.Core.Path.{◌≡◌, refl, sym, ◌∙◌}
use native.Mathlib.Omega.{arith}
use borrow.Author.Rules.{rules}
use lib.ListN.{length}
use Rattle.states.proofs.Tasks.{tasks-at}
use Rattle.rerun.proofs.Turns.{first-is, end_is, cores-are, few-variables, near_first, no-core, not-due, due-given, took-on, known-few, lent-lengths}
use Rattle.rerun.proofs.Ends.{fresh-table, rerun-start, reran-all, reran-none}
use Rattle.rerun.proofs.rerun_in.Goals as goal

pub fresh_judged-fresh-requires : goal.fresh_judged-fresh-requires
fresh_judged-fresh-requires c = let given = c.requires in record { accepted = given.accepted.file; laid = given.laid; fits = given.fits }

pub overflow_mul-end : goal.overflow_mul-end
overflow_mul-end c = omega (arith, few-variables c.requires.accepted c.requires.laid)

pub overflow_add-end : goal.overflow_add-end
overflow_add-end c = omega (arith, few-variables c.requires.accepted c.requires.laid, near_first c.requires.accepted c.requires.laid)

pub loop-item-init : goal.loop-item-init
loop-item-init c = let a = c.args in
    rerun-start _ _ _ c.requires.accepted (λ i. omega (arith, c.type_inv.file i))
    (λ i. omega (arith, c.type_inv.trace i)) a.buffer.now a.shared.now c.requires.fits
    c.fresh_judged-fresh.result _ _ c.fresh_judged-fresh.ensures c.table_of-cores.ensures c.places_of-places.ensures
    c.offsets_of-offsets.ensures

pub overflow_cast-b : goal.overflow_cast-b
overflow_cast-b c = omega (arith, c.shared_slice_known-3-1.given c.loop-item.item-index)

pub shape_of-buffer-then-n-k : goal.shape_of-buffer-then-n-k
shape_of-buffer-then-n-k c = let a = c.args in
    c.loop-item.invariant.buffer ∙ sym (lent-lengths a.file.now (length a.buffer.now) (length a.shared.now) c.requires.fits).0

pub shape_of-shared-then-n-k : goal.shape_of-shared-then-n-k
shape_of-shared-then-n-k c = let a = c.args in
    c.loop-item.invariant.shared ∙ sym (lent-lengths a.file.now (length a.buffer.now) (length a.shared.now) c.requires.fits).1

pub returns-then-n-k : goal.returns-then-n-k
returns-then-n-k c = reran-none _ _ _ _ _ _ c.without_table.ensures
    (no-core c.requires.accepted c.loop-item.invariant c.loop-item-test.true _ refl c.named_core-k.result
    c.named_core-k.ensures (omega (arith, c.if-n-k.true, cores-are c.requires.accepted c.requires.laid)))

pub offset_bounds-cores-k : goal.offset_bounds-cores-k
offset_bounds-cores-k c = omega (arith, known-few c.requires.accepted c.requires.laid c.if-n-k.false)

pub bounds-cores-k : goal.bounds-cores-k
bounds-cores-k c = search (rules, known-few c.requires.accepted c.requires.laid c.if-n-k.false)

pub offset_bounds-tasks-k : goal.offset_bounds-tasks-k
offset_bounds-tasks-k c = omega (arith, known-few c.requires.accepted c.requires.laid c.if-n-k.false)

pub bounds-tasks-k : goal.bounds-tasks-k
bounds-tasks-k c = search (rules, known-few c.requires.accepted c.requires.laid c.if-n-k.false)

pub shape_of-buffer-then-not-is_due : goal.shape_of-buffer-then-not-is_due
shape_of-buffer-then-not-is_due c = let a = c.args in
    c.loop-item.invariant.buffer ∙ sym (lent-lengths a.file.now (length a.buffer.now) (length a.shared.now) c.requires.fits).0

pub shape_of-shared-then-not-is_due : goal.shape_of-shared-then-not-is_due
shape_of-shared-then-not-is_due c = let a = c.args in
    c.loop-item.invariant.shared ∙ sym (lent-lengths a.file.now (length a.buffer.now) (length a.shared.now) c.requires.fits).1

pub returns-then-not-is_due : goal.returns-then-not-is_due
returns-then-not-is_due c = reran-none _ _ _ _ _ _ c.without_table-then-not-is_due.ensures
    (not-due c.requires.accepted c.loop-item.invariant c.loop-item-test.true _ refl c.named_core-k.result
    c.named_core-k.ensures (omega (arith, c.if-n-k.false, cores-are c.requires.accepted c.requires.laid)) _
    (tasks-at _ _ c.requires.accepted _ c.requires.tasked _ (omega (arith, c.if-n-k.false, cores-are c.requires.accepted c.requires.laid)))
    (sym c.is_due.ensures ∙ c.if-not-is_due.true))

pub offset_bounds-tasks-k-in-loop-item : goal.offset_bounds-tasks-k-in-loop-item
offset_bounds-tasks-k-in-loop-item c = omega (arith, known-few c.requires.accepted c.requires.laid c.if-n-k.false)

pub bounds-tasks-k-in-loop-item : goal.bounds-tasks-k-in-loop-item
bounds-tasks-k-in-loop-item c = search (rules, known-few c.requires.accepted c.requires.laid c.if-n-k.false)

pub offset_bounds-cores-k-in-loop-item : goal.offset_bounds-cores-k-in-loop-item
offset_bounds-cores-k-in-loop-item c = omega (arith, known-few c.requires.accepted c.requires.laid c.if-n-k.false)

pub bounds-cores-k-in-loop-item : goal.bounds-cores-k-in-loop-item
bounds-cores-k-in-loop-item c = search (rules, known-few c.requires.accepted c.requires.laid c.if-n-k.false)

pub take-requires : goal.take-requires
take-requires c = due-given c.requires.accepted c.loop-item.invariant c.loop-item-test.true _ refl c.named_core-k.result
    c.named_core-k.ensures (omega (arith, c.if-n-k.false, cores-are c.requires.accepted c.requires.laid)) _
    (tasks-at _ _ c.requires.accepted _ c.requires.tasked _ (omega (arith, c.if-n-k.false, cores-are c.requires.accepted c.requires.laid)))
    (sym c.is_due.ensures ∙ c.if-not-is_due.false) _ _ (first-is c.requires.accepted c.requires.laid)
    (end_is c.requires.accepted c.requires.laid)

pub offset_bounds-cores-k-in-loop-item-2 : goal.offset_bounds-cores-k-in-loop-item-2
offset_bounds-cores-k-in-loop-item-2 c = omega (arith, known-few c.requires.accepted c.requires.laid c.if-n-k.false)

pub bounds-cores-k-in-loop-item-2 : goal.bounds-cores-k-in-loop-item-2
bounds-cores-k-in-loop-item-2 c = search (rules, known-few c.requires.accepted c.requires.laid c.if-n-k.false)

pub loop-item-preserved : goal.loop-item-preserved
loop-item-preserved c = took-on c.requires.accepted c.loop-item.invariant c.loop-item-test.true _ refl c.named_core-k.result
    c.named_core-k.ensures (omega (arith, c.if-n-k.false, cores-are c.requires.accepted c.requires.laid)) _
    (tasks-at _ _ c.requires.accepted _ c.requires.tasked _ (omega (arith, c.if-n-k.false, cores-are c.requires.accepted c.requires.laid)))
    (sym c.is_due.ensures ∙ c.if-not-is_due.false) c.take.ensures _ refl

pub shape_of-buffer : goal.shape_of-buffer
shape_of-buffer c = let a = c.args in
    c.loop-item.invariant.buffer ∙ sym (lent-lengths a.file.now (length a.buffer.now) (length a.shared.now) c.requires.fits).0

pub shape_of-shared : goal.shape_of-shared
shape_of-shared c = let a = c.args in
    c.loop-item.invariant.shared ∙ sym (lent-lengths a.file.now (length a.buffer.now) (length a.shared.now) c.requires.fits).1

pub returns : goal.returns
returns c = let a = c.args in
    let whole : length a.list.now ≡ c.loop-item.item-index = omega (arith, c.loop-item-test.false, c.loop-item.invariant.within) in
    reran-all _ _ _ c.requires.accepted _
    (fresh-table _ _ a.list.now c.requires.accepted (λ i. omega (arith, c.type_inv.file i))
    (λ i. omega (arith, c.type_inv.trace i)) a.buffer.now a.shared.now c.requires.fits
    c.fresh_judged-fresh.result _ _ c.fresh_judged-fresh.ensures)
    _ _ _ _ _ _ c.loop-item.invariant (omega (arith, c.loop-item-test.false)) _ (rw (sym whole) c.reran.ensures)
