-- Document 02, 2.13, of calls on a lent core table: what any list of them wrote, `rikzord_rerun` takes, and ends alike. In order: what calls wrote; the claim.
-- `lent-rerun` of proofs/Rerun proves `LentRerun`. Not here: the same by value (crate rerun, specs/Rerun); what `rikzord_rerun` is for every input (crate rikzord, specs/Lent).
use Rattle.std.specs.Prelude.{◌≡◌, List, [], ◌∷◌, ◌++◌, ℕ, take}
use Rattle.protocol.specs.Step.{order_list}
use Rattle.protocol.specs.Rerun.{Settled, unlined}
use Rattle.taskset.specs.Fresh.{fresh_of}
use Rattle.semaphore.specs.declared.Semaphore.{Semaphore}
use Rattle.states.specs.Task.{task_of}
use Rattle.calls.specs.Calling.{lent_of, stepping, running}
use Rattle.snapshot.specs.declared.CoreRecord.{CoreRecord}
use Rattle.rikzord.specs.Lent.{Lent, taken_lent, fresh_lent, rerun_lent}
use Rattle.lent_calls.specs.Calling.{LentCall, over, leaves_lent, lent_calls, whole_lent, counts_lent, lent_steps_of}

-- ---- what calls wrote

-- the bytes that a call wrote to the order list: as many as it counts takings, where the count that is lent is 0 before. A step call is lent no list; its byte is
-- that of its taking.
abbrev pub written_lent_by : List ℕ → List ℕ → LentCall → Lent → List ℕ
written_lent_by f t (over rows (stepping a b k)) x = order_list (task_of f t) (counts_lent f t (over rows (stepping a b k)) x) (whole_lent f x)
written_lent_by f t (over rows (running a b order list)) x =
    take (taken_lent f t (take rows x.table) x.semaphore (lent_of a x.memory) (lent_of b x.shared) order list 0) (leaves_lent f t (over rows (running a b order list)) x).order

abbrev pub written_lent_of : List ℕ → List ℕ → List LentCall → Lent → List ℕ
written_lent_of f t [] x = []
written_lent_of f t (c ∷ cs) x = written_lent_by f t c x ++ written_lent_of f t cs (leaves_lent f t c x)

-- ---- the claim

-- The calls cs, from what `rikzord_fresh` left that was lent the table ys, the semaphore p and the memories d and sh: the rerun, lent ys', p', d' and sh', takes what
-- they wrote
pub record LentRerun (f t : List ℕ) (ys : List CoreRecord) (p : Semaphore) (d sh : List ℕ) (cs : List LentCall) (ys' : List CoreRecord) (p' : Semaphore) (d' sh' : List ℕ) : Type 0 where
  pub wrote : written_lent_of f t cs (fresh_lent f ys p d sh) ≡ order_list (task_of f t) (lent_steps_of f t cs (fresh_lent f ys p d sh)) (fresh_of f)
  pub taken : (rerun_lent f t (written_lent_of f t cs (fresh_lent f ys p d sh)) ys' p' d' sh').refusal ≡ 0
  -- and, where they left each core between cycles, stopped or waiting to write, ends alike
  pub alike : Settled (whole_lent f (lent_calls f t cs (fresh_lent f ys p d sh)))
      → whole_lent f (rerun_lent f t (written_lent_of f t cs (fresh_lent f ys p d sh)) ys' p' d' sh') ≡ unlined (whole_lent f (lent_calls f t cs (fresh_lent f ys p d sh)))
