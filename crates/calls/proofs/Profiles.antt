-- The call for the fresh state asks the file's number alone of the profile, and a file accepted as small has none under the full one. Assumes nothing.
use mathlib.Core.Path.{◌≡◌, sym, ap, ◌∙◌, subst}
use mathlib.Core.List.{List}
use Prim.Native.Nat.{ℕ, ◌<◌}
use lib.ListN.{length, get_or, take}
use Rattle.verdict.specs.Verdict.{next, unless}
use Rattle.verdict.proofs.Verdict.{next-zero, next-none}
use Rattle.code.specs.declared.Profile.TheVariants.{Small}
use Rattle.taskset.specs.Judge.{judge_for}
use Rattle.taskset.specs.Trace.{trace_refusal}
use Rattle.taskset.proofs.Narrowed.{small-is-full}
use Rattle.runner.specs.Runs.{Left}
use Rattle.machine.specs.Calls.{lent_fits, fresh_left, fresh_refusal_for, fresh_refusal, fresh_call_for, fresh_call}
use Rattle.calls.specs.Calling.{Call, calls, steps_of, taken_of, InterleavedFrom}
use Rattle.calls.specs.Profiles.{SmallRuns}
use Rattle.calls.proofs.Calling.{calls-interleaved}

module _ (f : List ℕ) (z : judge_for Small f ≡ 0) where
  pub small-fresh : (d sh : List ℕ) → fresh_call_for Small f d sh ≡ fresh_call f d sh
  unfolding fresh_call_for fresh_call fresh_refusal
  small-fresh d sh = ap (λ (r : ℕ). fresh_left (next r (unless (lent_fits f (length d) (length sh)) 21)) f d sh) (z ∙ sym (small-is-full f z))

  pub small-runs : (t d sh : List ℕ) (cs : List Call) → SmallRuns f t d sh cs
  small-runs t d sh cs =
      let same = small-fresh d sh in
      record {
        fresh = same;
        after-each = λ n. ap (calls f t (take n cs)) same;
        after-all = ap (calls f t cs) same;
        steps = ap (steps_of f t cs) same;
        taken = ap (taken_of f t cs) same;
      }

-- demand 3, both parts, of every list of calls after a call for the fresh state that the small profile does not refuse, on every sound trace
pub small-interleaved : (f t : List ℕ) → ((i : ℕ) → get_or f i 0 < 256) → ((i : ℕ) → get_or t i 0 < 256) → (d sh : List ℕ) → fresh_refusal_for Small f (length d) (length sh) ≡ 0 → trace_refusal f t ≡ 0
    → (cs : List Call) → InterleavedFrom f t (fresh_call_for Small f d sh) cs
unfolding fresh_refusal
small-interleaved f t bytes trace-bytes d sh e sound cs =
    let z = next-zero (judge_for Small f) _ e in
    subst (λ (x : Left). InterleavedFrom f t x cs) (sym (small-fresh f z.0 d sh))
    (calls-interleaved f t bytes trace-bytes d sh (next-none _ _ (small-is-full f z.0) z.1) sound cs)
