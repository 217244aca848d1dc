-- `Filling`: the data of the first k cores are written, and zeros follow. Assumes nothing.
use Prim.Native.Nat.{ℕ, ◌+◌, ◌*◌, ◌≤◌}
use mathlib.Core.Path.{refl, sym, ap, ◌∙◌}
use native.Mathlib.Omega.{arith}
use lib.ListN.{length, length-replicate}
use Rattle.memory.specs.Memory.{total}
use Rattle.taskset.specs.Task.{sizes_of}
use Rattle.taskset.proofs.Exact.{keeps-rules}
use Rattle.starts.proofs.Laws.{filling-none, filling-size, room, pairs-there, fits, pairs-inside, filling-more, filling-done}
use Rattle.starts.proofs.write_data.Goals as goal

pub code_place-p-requires : goal.code_place-p-requires
code_place-p-requires c = omega (arith, (keeps-rules c.args.f.now c.requires.0).most-cores, c.byte_at-n.ensures)

pub loop-k-init : goal.loop-k-init
loop-k-init c = filling-none _ _ _ _ c.code_place-p.ensures.0 c.byte_at-n.ensures c.requires.2

pub overflow_mul-k : goal.overflow_mul-k
overflow_mul-k c = omega (arith, (keeps-rules c.args.f.now c.requires.0).most-cores, c.byte_at-n.ensures)

pub overflow_add-k : goal.overflow_add-k
overflow_add-k c = omega (arith, (keeps-rules c.args.f.now c.requires.0).most-cores, c.byte_at-n.ensures)

pub overflow_add-e : goal.overflow_add-e
overflow_add-e c = let f = c.args.f.now in
    omega (
      arith,
      room f _ _ _ _ c.loop-k.invariant (omega (arith, c.byte_at-n.ensures, c.loop-k-test.true)),
      c.word_at.ensures.0,
      filling-size f _ _ _ _ c.loop-k.invariant,
      ap length c.requires.2,
      length-replicate {A = ℕ} (total (sizes_of f)) 0,
    )

pub overflow_add-p : goal.overflow_add-p
overflow_add-p c =
    let pairs-here : c.loop-k.p + 2 + 3 * c.word_at-count.result ≤ length c.args.f.now = pairs-there c.args.f.now _ _ _ _ c.loop-k.invariant c.requires.0 c.requires.1 _ _ _ c.byte_at-n.ensures
    c.loop-k-test.true (ap (λ (y : ℕ). c.loop-k.a + y) c.word_at.ensures.0) c.word_at-count.ensures.0 in
    omega (arith, pairs-here)

pub slice_bounds-write_pairs-count : goal.slice_bounds-write_pairs-count
slice_bounds-write_pairs-count c =
    let fits-here : (c.loop-k.a ≤ c.loop-k.a + c.word_at.result) × (c.loop-k.a + c.word_at.result ≤ length c.loop-k.buffer) = fits c.args.f.now _ _ _ _ c.loop-k.invariant c.requires.0 c.requires.1 _ _ _ c.byte_at-n.ensures
    c.loop-k-test.true (ap (λ (y : ℕ). c.loop-k.a + y) c.word_at.ensures.0) c.word_at-count.ensures.0 in
    fits-here.0

pub slice_bounds-write_pairs-start : goal.slice_bounds-write_pairs-start
slice_bounds-write_pairs-start c =
    let fits-here : (c.loop-k.a ≤ c.loop-k.a + c.word_at.result) × (c.loop-k.a + c.word_at.result ≤ length c.loop-k.buffer) = fits c.args.f.now _ _ _ _ c.loop-k.invariant c.requires.0 c.requires.1 _ _ _ c.byte_at-n.ensures
    c.loop-k-test.true (ap (λ (y : ℕ). c.loop-k.a + y) c.word_at.ensures.0) c.word_at-count.ensures.0 in
    fits-here.0

pub slice_bounds-write_pairs-end : goal.slice_bounds-write_pairs-end
slice_bounds-write_pairs-end c =
    let fits-here : (c.loop-k.a ≤ c.loop-k.a + c.word_at.result) × (c.loop-k.a + c.word_at.result ≤ length c.loop-k.buffer) = fits c.args.f.now _ _ _ _ c.loop-k.invariant c.requires.0 c.requires.1 _ _ _ c.byte_at-n.ensures
    c.loop-k-test.true (ap (λ (y : ℕ). c.loop-k.a + y) c.word_at.ensures.0) c.word_at-count.ensures.0 in
    fits-here.1

pub write_pairs-requires : goal.write_pairs-requires
write_pairs-requires c =
    let pairs-here : c.loop-k.p + 2 + 3 * c.word_at-count.result ≤ length c.args.f.now = pairs-there c.args.f.now _ _ _ _ c.loop-k.invariant c.requires.0 c.requires.1 _ _ _ c.byte_at-n.ensures
    c.loop-k-test.true (ap (λ (y : ℕ). c.loop-k.a + y) c.word_at.ensures.0) c.word_at-count.ensures.0 in
    let f = c.args.f.now in (
      pairs-here,
      pairs-inside f _ _ _ _ c.loop-k.invariant c.requires.0 c.requires.1 _ _ _ c.byte_at-n.ensures c.loop-k-test.true
          (ap (λ (y : ℕ). c.loop-k.a + y) c.word_at.ensures.0) c.word_at-count.ensures.0,
    )

pub overflow_add-p-in-loop-k : goal.overflow_add-p-in-loop-k
overflow_add-p-in-loop-k c =
    let pairs-here : c.loop-k.p + 2 + 3 * c.word_at-count.result ≤ length c.args.f.now = pairs-there c.args.f.now _ _ _ _ c.loop-k.invariant c.requires.0 c.requires.1 _ _ _ c.byte_at-n.ensures
    c.loop-k-test.true (ap (λ (y : ℕ). c.loop-k.a + y) c.word_at.ensures.0) c.word_at-count.ensures.0 in
    omega (arith, pairs-here)

pub overflow_mul-p : goal.overflow_mul-p
overflow_mul-p c =
    let pairs-here : c.loop-k.p + 2 + 3 * c.word_at-count.result ≤ length c.args.f.now = pairs-there c.args.f.now _ _ _ _ c.loop-k.invariant c.requires.0 c.requires.1 _ _ _ c.byte_at-n.ensures
    c.loop-k-test.true (ap (λ (y : ℕ). c.loop-k.a + y) c.word_at.ensures.0) c.word_at-count.ensures.0 in
    omega (arith, pairs-here)

pub overflow_add-p-in-loop-k-2 : goal.overflow_add-p-in-loop-k-2
overflow_add-p-in-loop-k-2 c =
    let pairs-here : c.loop-k.p + 2 + 3 * c.word_at-count.result ≤ length c.args.f.now = pairs-there c.args.f.now _ _ _ _ c.loop-k.invariant c.requires.0 c.requires.1 _ _ _ c.byte_at-n.ensures
    c.loop-k-test.true (ap (λ (y : ℕ). c.loop-k.a + y) c.word_at.ensures.0) c.word_at-count.ensures.0 in
    omega (arith, pairs-here)

pub loop-k-preserved : goal.loop-k-preserved
loop-k-preserved c = filling-more c.args.f.now _ _ _ _ c.loop-k.invariant c.requires.0 c.requires.1 _ _ _ c.byte_at-n.ensures
    c.loop-k-test.true (ap (λ (y : ℕ). c.loop-k.a + y) c.word_at.ensures.0) c.word_at-count.ensures.0 _ _ refl
    c.write_pairs.ensures

pub shape_of-buffer : goal.shape_of-buffer
shape_of-buffer c = let f = c.args.f.now in
    filling-size f _ _ _ _ c.loop-k.invariant ∙ sym (ap length c.requires.2 ∙ length-replicate {A = ℕ} (total (sizes_of f)) 0)

pub returns : goal.returns
returns c = filling-done c.args.f.now _ _ _ _ c.loop-k.invariant _ c.byte_at-n.ensures c.loop-k-test.false
