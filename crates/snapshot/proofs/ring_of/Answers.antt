-- `snapshot::ring_of` meets its contract: file, trace, state and the given core are judged in this order, as in the call by value. Assumes nothing.
use mathlib.Core.Path.{refl, sym, ap}
use native.Mathlib.Omega.{arith}
use Rattle.verdict.proofs.Refusals.{refused}
use Rattle.taskset.specs.declared.Layout.{Layout}
use Rattle.taskset.proofs.Exact.{keeps-rules}
use Rattle.taskset.proofs.Loading.{file-judged, file-accepted, file-laid}
use Rattle.machine.proofs.Calls.{prepared-tasks}
use Rattle.machine.proofs.Nexts.{next-file, next-held, next-named, next-free}
use Rattle.snapshot.proofs.Asked.{ring-refused, ring-whole}
use Rattle.snapshot.proofs.ring_of.Goals as goal

pub returns-in-Err : goal.returns-in-Err
returns-in-Err c = let a = c.args in
    let s = c.state_of-s.result in
    let es = c.state_of-s.ensures in
    ring-refused a.file.now a.trace.now a.t a.semaphore a.given s es _ _
    (next-file a.file.now a.trace.now s a.given (file-judged a.file.now _ c.in-Err.ensures) (refused _)) (refused _) c.no_ring.ensures

pub prepare-requires : goal.prepare-requires
prepare-requires c = (file-accepted c.args.file.now _ c.in-Ok.ensures refl, file-laid c.args.file.now _ c.in-Ok.ensures refl)

pub returns-in-Err-prepare : goal.returns-in-Err-prepare
returns-in-Err-prepare c = let a = c.args in
    let s = c.state_of-s.result in
    let es = c.state_of-s.ensures in
    let accepted = file-accepted a.file.now _ c.in-Ok.ensures refl in
    ring-refused a.file.now a.trace.now a.t a.semaphore a.given s es _ _
    (next-held a.file.now a.trace.now s a.given accepted c.in-Err-prepare.ensures.0 (refused _)) (refused _) c.no_ring-in-Err-prepare.ensures

pub returns-then-layout-given : goal.returns-then-layout-given
returns-then-layout-given c = let a = c.args in
    let s = c.state_of-s.result in
    let es = c.state_of-s.ensures in
    let accepted = file-accepted a.file.now _ c.in-Ok.ensures refl in
    let laid = ap (λ (l : Layout). l.cores) (file-laid a.file.now _ c.in-Ok.ensures refl) in
    ring-refused a.file.now a.trace.now a.t a.semaphore a.given s es 20 _
    (next-named a.file.now a.trace.now s a.given accepted (sym c.in-Ok-prepare.ensures.0) (omega (arith, laid, c.if-layout-given.true))) (λ e. absurd (omega arith)) c.no_ring-then-layout-given.ensures

pub overflow_cast-result : goal.overflow_cast-result
overflow_cast-result c = let a = c.args in
    let accepted = file-accepted a.file.now _ c.in-Ok.ensures refl in
    let laid = ap (λ (l : Layout). l.cores) (file-laid a.file.now _ c.in-Ok.ensures refl) in
    omega (arith, laid, (keeps-rules a.file.now accepted).most-cores)

pub returns : goal.returns
returns c = let a = c.args in
    let s = c.state_of-s.result in
    let es = c.state_of-s.ensures in
    let accepted = file-accepted a.file.now _ c.in-Ok.ensures refl in
    let laid = ap (λ (l : Layout). l.cores) (file-laid a.file.now _ c.in-Ok.ensures refl) in
    ring-whole a.file.now a.trace.now a.t a.semaphore a.given s es
    (next-free a.file.now a.trace.now s a.given accepted (sym c.in-Ok-prepare.ensures.0) (omega (arith, laid, c.if-layout-given.false)))
    _ _ laid (prepared-tasks a.file.now a.trace.now s _ c.in-Ok-prepare.ensures)
