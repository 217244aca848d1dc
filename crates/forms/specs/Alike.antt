-- A file and what a converter makes of it run alike: every call, refused ones too, answers and leaves the same for both, whatever trace, memories and list of
-- calls. `new-runs-alike` and `old-runs-alike` of proofs/RunsAlike prove `RunsAlike` of an accepted old file, and of an accepted new one without start values.
use Rattle.std.specs.Prelude.{◌≡◌, List, ℕ}
use Rattle.machine.specs.Calls.{fresh_call}
use Rattle.calls.specs.Calling.{Call, calls, steps_of}

-- on the trace t, with the memories d and sh lent to the call for the fresh state, whatever their sizes
pub record RunsAlike (f g t d sh : List ℕ) (cs : List Call) : Type 0 where
  -- the call for the fresh state answers and leaves the same
  pub fresh : fresh_call f d sh ≡ fresh_call g d sh
  -- and so does each list of calls after it
  pub after : calls f t cs (fresh_call f d sh) ≡ calls g t cs (fresh_call g d sh)
  -- they count as the same steps
  pub steps : steps_of f t cs (fresh_call f d sh) ≡ steps_of g t cs (fresh_call g d sh)
