-- `semaphore::waits` meets its contract. Assumes nothing.
use Rattle.semaphore.proofs.Laws.{waits-out, waits-held, waits-free}
use Rattle.semaphore.proofs.waits.Goals as goal

pub returns-then-not-standing-k : goal.returns-then-not-standing-k
returns-then-not-standing-k c = let p = c.requires in
    waits-out p.0 _ p.1 (c.if-not-standing-k.true)

pub returns-then-m-ne0 : goal.returns-then-m-ne0
returns-then-m-ne0 c = let p = c.requires in
    waits-held p.0 _ p.1 (c.if-not-standing-k.false) c.if-m-ne0.true

pub returns : goal.returns
returns c = let p = c.requires in
    waits-free p.0 _ p.1 (c.if-not-standing-k.false) c.if-m-ne0.false
