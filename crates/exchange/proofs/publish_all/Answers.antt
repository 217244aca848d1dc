-- `exchange::publish_all` meets its contract: the sides are shared memory and the data of core k. Assumes nothing.
use mathlib.Core.Path.{sym, ap, ◌∙◌}
use mathlib.Core.List.{List}
use native.Mathlib.Omega.{arith}
use Rattle.protocol.specs.State.{Move}
use Rattle.protocol.specs.Step.{copy}
use Rattle.protocol.specs.Variables.{local}
use Rattle.taskset.specs.Task.{variables_of}
use Rattle.exchange.proofs.Cursors.{writes-by-bit}
use Rattle.exchange.proofs.Carrying.{shared-lies, writing-lies, shared-tells, local-tells}
use Rattle.exchange.proofs.publish_all.Goals as goal

pub carry_all-requires : goal.carry_all-requires
carry_all-requires c = let p = c.requires in
    let few = p.0.few-cores in
    (p.0, p.2, p.3, omega (arith, p.1, few), omega (arith, p.1, few), omega arith, rw p.4 (writing-lies _ p.0 _ p.1), rw p.5 (shared-lies _ p.0 _ p.1 _))

pub returns : goal.returns
returns c = let a = c.args in
    let p = c.requires in
    c.carry_all.ensures (local a.k) (λ v. v.place) (local-tells _ p.0 _ p.1) (shared-tells _ p.0 _ p.1)
    ∙ ap (λ (ms : List Move). copy ms a.d.now a.shared.now) (sym (writes-by-bit a.k (omega (arith, p.1, p.0.few-cores)) (variables_of a.file.now)))
