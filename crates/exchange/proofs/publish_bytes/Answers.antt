-- `exchange::publish_bytes` meets its contract: the sides are shared memory and the data of core k. Assumes nothing.
use mathlib.Core.Path.{sym, ap, ◌∙◌}
use mathlib.Core.List.{List}
use native.Mathlib.Omega.{arith}
use lib.ListN.{take, drop}
use Rattle.protocol.specs.State.{Move}
use Rattle.protocol.specs.Step.{copy}
use Rattle.protocol.specs.Variables.{local}
use Rattle.taskset.specs.Task.{variables_of}
use Rattle.exchange.proofs.Cursors.{writes-by-bit}
use Rattle.exchange.proofs.Carrying.{shared-lies, writing-lies, shared-tells, local-tells}
use Rattle.exchange.proofs.publish_bytes.Goals as goal

pub carry-requires : goal.carry-requires
carry-requires c = let p = c.requires in
    let few = p.0.few-cores in
    (p.0, p.2, omega (arith, p.1, few), omega (arith, p.1, few), omega arith, p.3, p.4, rw p.5 (writing-lies _ p.0 _ p.1), rw p.6 (shared-lies _ p.0 _ p.1 _))

pub returns : goal.returns
returns c = let a = c.args in
    let p = c.requires in (
      c.carry.ensures.0,
      c.carry.ensures.1 (local a.k) (λ v. v.place) (local-tells _ p.0 _ p.1) (shared-tells _ p.0 _ p.1)
          ∙ ap (λ (ms : List Move). copy (take a.count (drop a.x ms)) a.d.now a.shared.now) (sym (writes-by-bit a.k (omega (arith, p.1, p.0.few-cores)) (variables_of a.file.now))),
    )
