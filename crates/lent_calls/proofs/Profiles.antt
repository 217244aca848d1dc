-- The call for the fresh state asks the file's number alone of the profile, and a file accepted as small has none under the full one. Assumes nothing.
use mathlib.Core.Path.{◌≡◌, sym, ap, ap₂, ◌∙◌}
use mathlib.Core.List.{List}
use Prim.Native.Nat.{ℕ}
use lib.ListN.{take}
use Rattle.code.specs.declared.Profile.TheVariants.{Small}
use Rattle.taskset.specs.Judge.{judge_for}
use Rattle.taskset.proofs.Narrowed.{small-is-full}
use Rattle.semaphore.specs.declared.Semaphore.{Semaphore}
use Rattle.runner.specs.Runs.{Left}
use Rattle.calls.proofs.Profiles.{small-fresh}
use Rattle.snapshot.specs.declared.CoreRecord.{CoreRecord}
use Rattle.snapshot.specs.Snapshot.{made_on, fresh_table_for, fresh_table}
use Rattle.rikzord.specs.Lent.{loaded, written_back, fresh_lent, fresh_lent_for}
use Rattle.lent_calls.specs.Calling.{LentCall, lent_calls, lent_steps_of}
use Rattle.lent_calls.specs.Profiles.{SmallLent}

module _ (f : List ℕ) (z : judge_for Small f ≡ 0) (ys : List CoreRecord) (p : Semaphore) (d sh : List ℕ) where
  pub small-fresh-lent : fresh_lent_for Small f ys p d sh ≡ fresh_lent f ys p d sh
  unfolding fresh_lent_for fresh_lent fresh_table_for fresh_table
  small-fresh-lent =
      ap₂ (λ (n : ℕ) (l : Left). written_back ys (made_on n l f (loaded ys) p d sh)) (z ∙ sym (small-is-full f z)) (small-fresh f z d sh)

  pub small-lent : (t : List ℕ) (cs : List LentCall) → SmallLent f t ys p d sh cs
  small-lent t cs =
      record {
        fresh = small-fresh-lent;
        after-each = λ n. ap (lent_calls f t (take n cs)) small-fresh-lent;
        after-all = ap (lent_calls f t cs) small-fresh-lent;
        steps = ap (lent_steps_of f t cs) small-fresh-lent;
      }
