-- `bounds::takes_in` meets its contract. The loop's invariant, `Counted`: no core below k is refused, and their numbers are found. Assumes nothing.
use mathlib.Core.Path.{◌≡◌, refl, sym, subst}
use Prim.Native.Nat.{ℕ}
use native.Mathlib.Omega.{arith}
use Rattle.verdict.proofs.Refusals.{refused, handed}
use Rattle.bounds.specs.Bounds.{takes_of}
use Rattle.bounds.proofs.Answer.{counted_none, counted-more, refused-core, answered, few-cores}
use Rattle.bounds.proofs.takes_in.Goals as goal

pub loop-k-init : goal.loop-k-init
loop-k-init c = counted_none c.args.file.now

pub core_bounds-requires : goal.core_bounds-requires
core_bounds-requires c = (c.requires.0, c.requires.1, omega (arith, c.loop-k-test.true, few-cores c.args.file.now _ c.requires.0 c.requires.1))

pub returns-in_err-numbers : goal.returns-in_err-numbers
returns-in_err-numbers c = rw (handed _ _ c.from_residual.ensures.1)
    (refused-core c.args.file.now c.loop-k.k _ _ _ _ _ c.requires.0
    (omega (arith, c.loop-k-test.true, few-cores c.args.file.now _ c.requires.0 c.requires.1))
    c.loop-k.invariant c.in_err-numbers.ensures (refused _))

pub offset_bounds-count-k : goal.offset_bounds-count-k
offset_bounds-count-k c = omega (arith, c.loop-k-test.true, few-cores c.args.file.now _ c.requires.0 c.requires.1)

pub bounds-count-k : goal.bounds-count-k
bounds-count-k c = omega (arith, c.loop-k-test.true, few-cores c.args.file.now _ c.requires.0 c.requires.1, c.loop-k.invariant.counts.size)

pub offset_bounds-depth-k : goal.offset_bounds-depth-k
offset_bounds-depth-k c = omega (arith, c.loop-k-test.true, few-cores c.args.file.now _ c.requires.0 c.requires.1)

pub bounds-depth-k : goal.bounds-depth-k
bounds-depth-k c = omega (arith, c.loop-k-test.true, few-cores c.args.file.now _ c.requires.0 c.requires.1, c.loop-k.invariant.depths.size)

pub loop-k-preserved : goal.loop-k-preserved
loop-k-preserved c = let few = few-cores c.args.file.now _ c.requires.0 c.requires.1 in
    counted-more c.args.file.now c.loop-k.k _ _ _ _ _ (omega (arith, c.loop-k-test.true, few)) (omega (arith, c.loop-k-test.true, few))
    c.loop-k.invariant c.in_ok-numbers.ensures refl

pub sum_of_sizes-requires : goal.sum_of_sizes-requires
sum_of_sizes-requires c = c.requires

pub returns : goal.returns
returns c = let few = few-cores c.args.file.now _ c.requires.0 c.requires.1 in
    subst
    (λ (m : ℕ). record { refusal = 0; buffer = c.sum_of_sizes.result; shared = 1024; table = m; count = c.loop-k.count; depth = c.loop-k.depth } ≡ takes_of c.args.file.now)
    (sym few.0)
    (answered c.args.file.now c.loop-k.k _ _ _ c.requires.0 c.loop-k.invariant (omega (arith, c.loop-k-test.false, few)) (omega (arith, c.loop-k.auto.k-end, few))
    c.sum_of_sizes.ensures.0)
