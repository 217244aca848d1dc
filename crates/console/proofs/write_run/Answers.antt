-- `console::write_run` meets its contract: what the run refuses is printed, or the listing. Assumes nothing.
use native.Mathlib.Omega.{arith}
use Rattle.console.proofs.Runs.{run-refused, run-listed, written}
use Rattle.console.proofs.write_run.Goals as goal

pub returns-then-ran-ne0 : goal.returns-then-ran-ne0
returns-then-ran-ne0 c = let a = c.args in
    let given = c.requires in
    written a.out.now
    (run-refused a.file.now a.trace.now a.order.now a.list.now given.0.accepted
    (λ i. omega (arith, c.type_inv.file i)) (λ i. omega (arith, c.type_inv.trace i))
    given.1 _ _ _ _ c.first_run_judged-ran.ensures c.if-ran-ne0.true)
    c.write_refused.ensures

pub returns : goal.returns
returns c = let a = c.args in
    let given = c.requires in
    written a.out.now
    (run-listed a.file.now a.trace.now a.order.now a.list.now given.0.accepted
    (λ i. omega (arith, c.type_inv.file i)) (λ i. omega (arith, c.type_inv.trace i))
    given.1 _ _ _ _ c.first_run_judged-ran.ensures c.if-ran-ne0.false)
    c.write_listing.ensures
