-- `console::output` meets its contract: `long` comes before everything, then the refusal of the file; the lent memory has its sizes. Assumes nothing.
use mathlib.Core.Path.{refl, sym, ◌∙◌}
use borrow.Author.Rules.{rules}
use Rattle.verdict.proofs.Refusals.{refused}
use Rattle.taskset.proofs.Loading.{file-judged, file-accepted, file-laid}
use Rattle.console.proofs.Fresh.{prefix, zeros-fit}
use Rattle.console.proofs.Runs.{file-refused, written, long-text, short-text, short-order}
use Rattle.console.proofs.output.Goals as goal

pub returns-then-too_long : goal.returns-then-too_long
returns-then-too_long c = let a = c.args in
    written a.out.now (long-text a.file.now a.trace.now a.order.now (sym c.too_long.ensures ∙ c.if-too_long.true)) c.write_long.ensures

pub returns-in-Err : goal.returns-in-Err
returns-in-Err c = let a = c.args in
    let number = c.number.ensures.0 in
    let judged = number ∙ file-judged a.file.now _ c.in-Err.ensures in
    written a.out.now
    (file-refused a.file.now a.trace.now a.order.now _ judged (λ e. refused _ (sym number ∙ e))
    ∙ short-text a.file.now a.trace.now a.order.now (sym c.too_long.ensures ∙ c.if-too_long.false))
    c.write_refused.ensures

pub sum_of_sizes-size-requires : goal.sum_of_sizes-size-requires
sum_of_sizes-size-requires c = (file-accepted _ _ c.in-Ok.ensures refl, file-laid _ _ c.in-Ok.ensures refl)

pub slice_bounds-write_run-end : goal.slice_bounds-write_run-end
slice_bounds-write_run-end c = prefix _ 16384 c.sum_of_sizes-size.ensures.1

pub write_run-requires : goal.write_run-requires
write_run-requires c = let file = c.args.file.now in (
  record {
    accepted = file-accepted file _ c.in-Ok.ensures refl;
    laid = file-laid file _ c.in-Ok.ensures refl;
    fits = zeros-fit file _ c.sum_of_sizes-size.ensures.0 c.sum_of_sizes-size.ensures.1;
  },
  short-order _ _ _ (sym c.too_long.ensures ∙ c.if-too_long.false),
)

pub returns : goal.returns
returns c = let a = c.args in
    written a.out.now (short-text a.file.now a.trace.now a.order.now (sym c.too_long.ensures ∙ c.if-too_long.false))
    c.write_run.ensures
