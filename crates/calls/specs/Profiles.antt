-- Document 02, 2.10: "A file accepted as small runs step for step as it does under the full profile." The caller names the profile where it loads, in the call
-- for the fresh state; every later call is as before. `small-runs` of proofs/Profiles proves `SmallRuns` of every file that is accepted as small,
-- `small-interleaved` demand 3 of every list of calls after it. Not here: which files are accepted as small (taskset, specs/Profiles).
use Rattle.std.specs.Prelude.{◌≡◌, List, ℕ, take}
use Rattle.code.specs.declared.Profile.TheVariants.{Small}
use Rattle.machine.specs.Calls.{fresh_call, fresh_call_for}
use Rattle.calls.specs.Calling.{Call, calls, steps_of, taken_of}

-- on the trace t, with the memories d and sh lent to the call for the fresh state, whatever their sizes
pub record SmallRuns (f t d sh : List ℕ) (cs : List Call) : Type 0 where
  -- that call answers and leaves what it does under the full profile
  pub fresh : fresh_call_for Small f d sh ≡ fresh_call f d sh
  -- and so does each call of a list after it: after n of them all is the same
  pub after-each : (n : ℕ) → calls f t (take n cs) (fresh_call_for Small f d sh) ≡ calls f t (take n cs) (fresh_call f d sh)
  pub after-all : calls f t cs (fresh_call_for Small f d sh) ≡ calls f t cs (fresh_call f d sh)
  -- they count as the same steps, and count the same takings
  pub steps : steps_of f t cs (fresh_call_for Small f d sh) ≡ steps_of f t cs (fresh_call f d sh)
  pub taken : taken_of f t cs (fresh_call_for Small f d sh) ≡ taken_of f t cs (fresh_call f d sh)
