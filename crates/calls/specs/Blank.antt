-- Document 02, 2.6: "The pairing of records is as sound for such a first cycle as for any other." Demand 3 and the bound of the line, of every list of calls
-- on a trace of no bytes, from the call for the fresh state. `blank-calls` of proofs/Blank proves `BlankCalls` of every file that is accepted.
-- Not here: what a trace of no bytes means (taskset, specs/Blank).
use Rattle.std.specs.Prelude.{List, [], ℕ}
use Rattle.calls.specs.Calling.{Call, CallsInterleaved}
use Rattle.calls.specs.Fair.{CallsFair}

pub record BlankCalls (f d sh : List ℕ) (cs : List Call) : Type 0 where
  pub interleaved : CallsInterleaved f [] d sh cs
  pub fair : CallsFair f [] d sh cs
