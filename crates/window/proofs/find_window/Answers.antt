-- `window::find_window` meets its contract: the file, the data buffer, the core, the start and the length are judged in this order. Assumes nothing.
use mathlib.Core.Path.{refl, sym, ap, ◌∙◌}
use Prim.Native.Nat.{ℕ, ◌+◌, ◌<◌}
use native.Mathlib.Omega.{arith}
use Rattle.records.specs.File.{cores}
use Rattle.verdict.proofs.Refusals.{refused, handed}
use Rattle.taskset.specs.declared.Layout.{Layout}
use Rattle.taskset.proofs.Exact.{keeps-rules}
use Rattle.taskset.proofs.Loading.{file-judged, file-accepted, file-laid}
use Rattle.window.specs.declared.Place.{Place}
use Rattle.window.proofs.Laws.{refused-found, file-number, lent-number, core-number, stretch-number, no_number, shown-found, place-low}
use Rattle.window.proofs.find_window.Goals as goal

pub returns-in_err-layout : goal.returns-in_err-layout
returns-in_err-layout c = let a = c.args in
    rw (handed _ _ c.from_residual.ensures.1)
    (refused-found a.file.now a.buffer a.shown a.core a.start a.count
    (file-number a.file.now a.buffer a.shown a.core a.start a.count (file-judged a.file.now _ c.in_err-layout.ensures) (refused _)) (refused _) refl)

pub sum_of_sizes-requires : goal.sum_of_sizes-requires
sum_of_sizes-requires c = let a = c.args in
    let accepted = file-accepted a.file.now _ c.in_ok-layout.ensures refl in
    let laid = file-laid a.file.now _ c.in_ok-layout.ensures refl in
    (accepted, laid)

pub returns-then-buffer-sum_of_sizes : goal.returns-then-buffer-sum_of_sizes
returns-then-buffer-sum_of_sizes c = let a = c.args in
    let accepted = file-accepted a.file.now _ c.in_ok-layout.ensures refl in
    let laid = file-laid a.file.now _ c.in_ok-layout.ensures refl in
    refused-found a.file.now a.buffer a.shown a.core a.start a.count
    (lent-number a.file.now a.buffer a.shown a.core a.start a.count accepted
    (λ e. c.if-buffer-sum_of_sizes.true (e ∙ sym c.sum_of_sizes.ensures.0))) (λ e. absurd (omega arith)) refl

pub returns-then-layout-k : goal.returns-then-layout-k
returns-then-layout-k c = let a = c.args in
    let accepted = file-accepted a.file.now _ c.in_ok-layout.ensures refl in
    let laid = file-laid a.file.now _ c.in_ok-layout.ensures refl in
    let lent = c.if-buffer-sum_of_sizes.false ∙ c.sum_of_sizes.ensures.0 in
    refused-found a.file.now a.buffer a.shown a.core a.start a.count
    (core-number a.file.now a.buffer a.shown a.core a.start a.count accepted lent
    (omega (arith, ap (λ (l : Layout). l.cores) laid, c.if-layout-k.true))) (λ e. absurd (omega arith)) refl

pub place_of-place-requires : goal.place_of-place-requires
place_of-place-requires c = let a = c.args in
    let accepted = file-accepted a.file.now _ c.in_ok-layout.ensures refl in
    let laid = file-laid a.file.now _ c.in_ok-layout.ensures refl in
    let lent = c.if-buffer-sum_of_sizes.false ∙ c.sum_of_sizes.ensures.0 in
    let below : a.core < cores a.file.now = omega (arith, ap (λ (l : Layout). l.cores) laid, c.if-layout-k.false) in
    (laid, omega (arith, (keeps-rules a.file.now accepted).most-cores))

pub returns-then-place-start : goal.returns-then-place-start
returns-then-place-start c = let a = c.args in
    let accepted = file-accepted a.file.now _ c.in_ok-layout.ensures refl in
    let laid = file-laid a.file.now _ c.in_ok-layout.ensures refl in
    let lent = c.if-buffer-sum_of_sizes.false ∙ c.sum_of_sizes.ensures.0 in
    let below : a.core < cores a.file.now = omega (arith, ap (λ (l : Layout). l.cores) laid, c.if-layout-k.false) in
    let place = ap (λ (p : Place). p.size) c.place_of-place.ensures in
    refused-found a.file.now a.buffer a.shown a.core a.start a.count (stretch-number a.file.now a.buffer a.shown a.core a.start a.count accepted lent below (omega (arith, place, c.if-place-start.true))) (λ e. absurd (omega arith)) refl

pub returns-then-place-start-2 : goal.returns-then-place-start-2
returns-then-place-start-2 c = let a = c.args in
    let accepted = file-accepted a.file.now _ c.in_ok-layout.ensures refl in
    let laid = file-laid a.file.now _ c.in_ok-layout.ensures refl in
    let lent = c.if-buffer-sum_of_sizes.false ∙ c.sum_of_sizes.ensures.0 in
    let below : a.core < cores a.file.now = omega (arith, ap (λ (l : Layout). l.cores) laid, c.if-layout-k.false) in
    let place = ap (λ (p : Place). p.size) c.place_of-place.ensures in
    refused-found a.file.now a.buffer a.shown a.core a.start a.count
    (stretch-number a.file.now a.buffer a.shown a.core a.start a.count accepted lent below
    (omega (arith, place, c.if-place-start.false, c.if-place-start-2.true))) (λ e. absurd (omega arith)) refl

pub overflow_add-from : goal.overflow_add-from
overflow_add-from c = let a = c.args in
    let accepted = file-accepted a.file.now _ c.in_ok-layout.ensures refl in
    let laid = file-laid a.file.now _ c.in_ok-layout.ensures refl in
    let lent = c.if-buffer-sum_of_sizes.false ∙ c.sum_of_sizes.ensures.0 in
    let below : a.core < cores a.file.now = omega (arith, ap (λ (l : Layout). l.cores) laid, c.if-layout-k.false) in
    let place = ap (λ (p : Place). p.size) c.place_of-place.ensures in
    let base = ap (λ (p : Place). p.base) c.place_of-place.ensures in
    let low = place-low a.file.now a.core accepted below a.shown 18446744073709551615 (omega (arith, c.well_formed)) (omega (arith, c.sum_of_sizes.ensures)) in
    omega (arith, low, base, place, c.if-place-start.false)

pub overflow_add-result : goal.overflow_add-result
overflow_add-result c = let a = c.args in
    let accepted = file-accepted a.file.now _ c.in_ok-layout.ensures refl in
    let laid = file-laid a.file.now _ c.in_ok-layout.ensures refl in
    let lent = c.if-buffer-sum_of_sizes.false ∙ c.sum_of_sizes.ensures.0 in
    let below : a.core < cores a.file.now = omega (arith, ap (λ (l : Layout). l.cores) laid, c.if-layout-k.false) in
    let place = ap (λ (p : Place). p.size) c.place_of-place.ensures in
    let base = ap (λ (p : Place). p.base) c.place_of-place.ensures in
    let low = place-low a.file.now a.core accepted below a.shown 18446744073709551615 (omega (arith, c.well_formed)) (omega (arith, c.sum_of_sizes.ensures)) in
    omega (arith, low, base, place, c.if-place-start.false, c.if-place-start-2.false)

pub returns : goal.returns
returns c = let a = c.args in
    let accepted = file-accepted a.file.now _ c.in_ok-layout.ensures refl in
    let laid = file-laid a.file.now _ c.in_ok-layout.ensures refl in
    let lent = c.if-buffer-sum_of_sizes.false ∙ c.sum_of_sizes.ensures.0 in
    let below : a.core < cores a.file.now = omega (arith, ap (λ (l : Layout). l.cores) laid, c.if-layout-k.false) in
    let place = ap (λ (p : Place). p.size) c.place_of-place.ensures in
    let base = ap (λ (p : Place). p.base) c.place_of-place.ensures in
    shown-found a.file.now a.buffer a.shown a.core a.start a.count (no_number a.file.now a.buffer a.shown a.core a.start a.count accepted lent below (omega (arith, place, c.if-place-start.false, c.if-place-start-2.false)))
    (ap (λ (b : ℕ). record { refusal = 0; from = b + a.start; to = b + a.start + a.count }) base)
