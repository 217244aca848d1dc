-- `blank-calls`: a trace of no bytes is sound, so what holds of calls on a sound trace holds of calls on it. Assumes nothing.
use mathlib.Core.Path.{◌≡◌}
use mathlib.Core.List.{List, []}
use Prim.Native.Nat.{ℕ, ◌<◌}
use lib.Dec.{lit<}
use lib.ListN.{length, get_or}
use Rattle.taskset.proofs.Blank.{blank-trace}
use Rattle.machine.specs.Calls.{fresh_refusal}
use Rattle.calls.specs.Calling.{Call}
use Rattle.calls.specs.Blank.{BlankCalls}
use Rattle.calls.proofs.Calling.{calls-interleaved}
use Rattle.calls.proofs.Fair.{calls-fair}

no_bytes : (i : ℕ) → get_or {A = ℕ} [] i 0 < 256
no_bytes i = lit< tt

pub blank-calls : (f : List ℕ) → ((i : ℕ) → get_or f i 0 < 256) → (d sh : List ℕ) → fresh_refusal f (length d) (length sh) ≡ 0 → (cs : List Call) → BlankCalls f d sh cs
blank-calls f bytes d sh e cs = record {
  interleaved = calls-interleaved f [] bytes no_bytes d sh e (blank-trace f).sound cs;
  fair = calls-fair f [] bytes no_bytes d sh e (blank-trace f).sound cs;
}
