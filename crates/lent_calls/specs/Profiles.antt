-- Document 02, 2.10, on a lent core table: "A file accepted as small runs step for step as it does under the full profile." `small-lent` of proofs/Profiles
-- proves `SmallLent` of every file that is accepted as small, so that every claim on lists of lent calls holds after `rikzord_fresh_small` too.
-- Not here: which files these are (taskset, specs/Profiles); calls by value (machine, specs/Profiles).
use Rattle.std.specs.Prelude.{◌≡◌, List, ℕ, take}
use Rattle.code.specs.declared.Profile.TheVariants.{Small}
use Rattle.semaphore.specs.declared.Semaphore.{Semaphore}
use Rattle.snapshot.specs.declared.CoreRecord.{CoreRecord}
use Rattle.rikzord.specs.Lent.{fresh_lent, fresh_lent_for}
use Rattle.lent_calls.specs.Calling.{LentCall, lent_calls, lent_steps_of}

-- with the table ys, the semaphore p and the memories d and sh lent to the call for the fresh state
pub record SmallLent (f t : List ℕ) (ys : List CoreRecord) (p : Semaphore) (d sh : List ℕ) (cs : List LentCall) : Type 0 where
  pub fresh : fresh_lent_for Small f ys p d sh ≡ fresh_lent f ys p d sh
  pub after-each : (n : ℕ) → lent_calls f t (take n cs) (fresh_lent_for Small f ys p d sh) ≡ lent_calls f t (take n cs) (fresh_lent f ys p d sh)
  pub after-all : lent_calls f t cs (fresh_lent_for Small f ys p d sh) ≡ lent_calls f t cs (fresh_lent f ys p d sh)
  pub steps : lent_steps_of f t cs (fresh_lent_for Small f ys p d sh) ≡ lent_steps_of f t cs (fresh_lent f ys p d sh)
