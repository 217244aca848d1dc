-- `cycles::reads_from` meets its contract. The invariant: none of the variables so far is such a one. Assumes nothing.
use Prim.Native.Nat.{ℕ, ◌+◌, ◌*◌}
use mathlib.Core.Path.{◌≡◌, sym, ap, ◌∙◌}
use native.Mathlib.Omega.{arith}
use lib.ListN.{get_or}
use Rattle.verdict.specs.Verdict.{both}
use Rattle.protocol.specs.Variables.{reads_it, writes_it}
use Rattle.records.specs.File.{count_place, variable_in}
use Rattle.taskset.proofs.Accepted.{record-in-file}
use Rattle.cycles.proofs.Check.{passes, none-at-first, found_here, none_here, none_at_all}
use Rattle.cycles.proofs.reads_from.Goals as goal

pub loop-i-init : goal.loop-i-init
loop-i-init c = let file = c.args.file.now in
    let at : 5 + 6 * c.byte_at.result ≡ count_place file = ap (λ (n : ℕ). 5 + 6 * n) c.byte_at.ensures in
    (at, c.byte_at-n.ensures ∙ ap (λ (p : ℕ). get_or file p 0) at, none-at-first file c.args.r c.args.w)

pub overflow_add-at-in-loop-i : goal.overflow_add-at-in-loop-i
overflow_add-at-in-loop-i c = omega (arith, record-in-file c.args.file.now c.requires.0 c.loop-i.i (omega arith))

pub overflow_mul-i : goal.overflow_mul-i
overflow_mul-i c = omega (arith, record-in-file c.args.file.now c.requires.0 c.loop-i.i (omega arith))

pub overflow_add-at-in-loop-i-2 : goal.overflow_add-at-in-loop-i-2
overflow_add-at-in-loop-i-2 c = omega (arith, record-in-file c.args.file.now c.requires.0 c.loop-i.i (omega arith))

pub passes-requires : goal.passes-requires
passes-requires c = let pre = c.requires in
    (omega (arith, record-in-file c.args.file.now c.requires.0 c.loop-i.i (omega arith)), pre.1, pre.2)

pub returns-then-passes : goal.returns-then-passes
returns-then-passes c = let looped = c.loop-i in
    let file = c.args.file.now in
    let tried : c.passes.result ≡ passes file c.args.r c.args.w looped.i =
    c.passes.ensures ∙ ap (λ (p : ℕ). both (reads_it c.args.r (variable_in file (p + 1 + 12 * looped.i))) (writes_it c.args.w (variable_in file (p + 1 + 12 * looped.i)))) looped.invariant.0 in
    found_here file c.args.r c.args.w looped.i looped.invariant.2 (omega arith) (sym tried ∙ c.if-passes.true)

pub loop-i-preserved : goal.loop-i-preserved
loop-i-preserved c = let looped = c.loop-i in
    let file = c.args.file.now in
    let tried : c.passes.result ≡ passes file c.args.r c.args.w looped.i =
    c.passes.ensures ∙ ap (λ (p : ℕ). both (reads_it c.args.r (variable_in file (p + 1 + 12 * looped.i))) (writes_it c.args.w (variable_in file (p + 1 + 12 * looped.i)))) looped.invariant.0 in
    (looped.invariant.0, looped.invariant.1, none_here file c.args.r c.args.w looped.i looped.invariant.2 (omega arith) (sym tried ∙ c.if-passes.false))

pub returns : goal.returns
returns c = let args = c.args in
    none_at_all args.file.now args.r args.w c.loop-i.i c.loop-i.invariant.2 (omega arith)
