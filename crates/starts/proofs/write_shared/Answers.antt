-- `Publishing`: the variables before number i are written, and those left make of shared memory what all make of it at entry. Assumes nothing.
use Prim.Native.Nat.{◌+◌, ◌*◌, ◌≤◌}
use native.Mathlib.Nat.{add-zero}
use mathlib.Core.Path.{sym, ap, ◌∙◌}
use native.Mathlib.Omega.{arith}
use lib.ListN.{length}
use Rattle.taskset.specs.declared.Layout.{Layout}
use Rattle.taskset.proofs.Accepted.{length-buffer}
use Rattle.starts.proofs.Laws.{publishing-none, record-there, shared-fits, buffer-fits, publishing-more, copied-as, publishing-done}
use Rattle.starts.proofs.write_shared.Goals as goal

pub loop-i-init : goal.loop-i-init
loop-i-init c = publishing-none _ _ _ _ (ap (λ (l : Layout). l.variables) c.requires.1) (add-zero _ ∙ ap (λ (l : Layout). l.first) c.requires.1) c.requires.3

pub writer-w-requires : goal.writer-w-requires
writer-w-requires c =
    let record-here : c.args.layout.first + 12 * c.loop-i.i + 12 ≤ length c.args.f.now = record-there c.args.f.now c.requires.0 _ _ _ _ _ c.loop-i.invariant c.loop-i-test.true in
    record-here

pub base_of-requires : goal.base_of-requires
base_of-requires c = (c.requires.1, c.writer-w.ensures.1)

pub local_place-requires : goal.local_place-requires
local_place-requires c =
    let record-here : c.args.layout.first + 12 * c.loop-i.i + 12 ≤ length c.args.f.now = record-there c.args.f.now c.requires.0 _ _ _ _ _ c.loop-i.invariant c.loop-i-test.true in
    (record-here, c.writer-w.ensures.1)

pub overflow_add-from : goal.overflow_add-from
overflow_add-from c = let f = c.args.f.now in
    omega (
      arith,
      buffer-fits f c.requires.0 _ _ _ _ _ c.loop-i.invariant c.loop-i-test.true _ _ c.writer-w.ensures.0
          c.base_of.ensures,
      c.local_place.ensures,
      length-buffer f,
      ap length c.requires.2,
    )

pub shared_place-to-requires : goal.shared_place-to-requires
shared_place-to-requires c =
    let record-here : c.args.layout.first + 12 * c.loop-i.i + 12 ≤ length c.args.f.now = record-there c.args.f.now c.requires.0 _ _ _ _ _ c.loop-i.invariant c.loop-i-test.true in
    record-here

pub width-requires : goal.width-requires
width-requires c =
    let record-here : c.args.layout.first + 12 * c.loop-i.i + 12 ≤ length c.args.f.now = record-there c.args.f.now c.requires.0 _ _ _ _ _ c.loop-i.invariant c.loop-i-test.true in
    record-here

pub copy-requires : goal.copy-requires
copy-requires c = let f = c.args.f.now in (
  omega (
    arith,
    shared-fits f c.requires.0 _ _ _ _ _ c.loop-i.invariant c.loop-i-test.true _ _ c.writer-w.ensures.0
        c.base_of.ensures,
    c.shared_place-to.ensures,
    c.width.ensures,
  ),
  omega (
    arith,
    buffer-fits f c.requires.0 _ _ _ _ _ c.loop-i.invariant c.loop-i-test.true _ _ c.writer-w.ensures.0
        c.base_of.ensures,
    c.local_place.ensures,
    c.width.ensures,
    length-buffer f,
    ap length c.requires.2,
  ),
)

pub loop-i-preserved : goal.loop-i-preserved
loop-i-preserved c = publishing-more c.args.f.now c.requires.0 _ _ _ _ _ c.loop-i.invariant c.loop-i-test.true _ _ c.writer-w.ensures.0
    c.base_of.ensures _ _ _ (omega arith) c.requires.2
    (copied-as _ _ _ _ _ _ _ _ _ _ c.copy.ensures c.shared_place-to.ensures
    c.local_place.ensures c.width.ensures)

pub shape_of-shared : goal.shape_of-shared
shape_of-shared c = c.loop-i.invariant.size ∙ sym c.requires.3

pub returns : goal.returns
returns c = publishing-done _ _ _ _ _ _ c.loop-i.invariant c.loop-i-test.false
