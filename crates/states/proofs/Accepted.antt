-- An accepted file with a sound trace is a set that states and steps can rest on. Assumes nothing.
use mathlib.Core.Path.{◌≡◌}
use mathlib.Core.List.{List}
use Prim.Native.Nat.{ℕ, ◌≤◌, ◌<◌}
use native.Mathlib.Omega.{arith}
use lib.ListN.{get_or}
use Rattle.verdict.proofs.Verdict.{by-pick}
use Rattle.memory.specs.Memory.{word}
use Rattle.memory.proofs.Number.{read-lt}
use Rattle.code.proofs.Sound.{start-zero}
use Rattle.records.specs.File.{cores}
use Rattle.taskset.specs.Judge.{code_of, judge}
use Rattle.taskset.specs.Trace.{blank, trace_place, trace_refusal}
use Rattle.taskset.proofs.Records.{record-inside}
use Rattle.taskset.proofs.Exact.{keeps-rules}
use Rattle.taskset.proofs.Accepted.{CoreFacts, core-facts}
use Rattle.exchange.proofs.Accepted.{laid}
use Rattle.states.specs.Set.{AcceptedSet}

-- a 16-bit number of a list of bytes
word_small : (s : List ℕ) (p : ℕ) → ((i : ℕ) → get_or s i 0 < 256) → word s p ≤ 65535
word_small s p b = omega (arith, read-lt s p 2 b)

pub accepted-set : (f t : List ℕ) → ((i : ℕ) → get_or f i 0 < 256) → ((i : ℕ) → get_or t i 0 < 256) → judge f ≡ 0 → trace_refusal f t ≡ 0 → AcceptedSet f t
accepted-set f t b d z y =
    record {
      file = z;
      trace = y;
      few = (keeps-rules f z).most-cores;
      data-size = λ k h. ((at k h).record-rules.some-data, (at k h).record-rules.most-data);
      inputs = λ k h. (at k h).record-rules.inputs;
      limits = λ k h. ((at k h).record-rules.some-limit, word_small f _ b);
      laid = laid f z;
      code-length = λ k h. (at k h).most-code;
      code_inside = λ k h. (at k h).code-in-file;
      code = λ k h. (at k h).code-accepted;
      start = λ k h. start-zero (code_of f k) (omega (arith, (at k h).code-length, (at k h).some-code));
      counts = λ k. by-pick (λ (n : ℕ). n ≤ 65535) (blank t) 1 (word t (trace_place f t k)) (λ e. omega arith) (λ e. word_small t _ d);
      records = λ e k h i l. record-inside f t k i e y h l;
    }
  where
    at : (k : ℕ) → k < cores f → CoreFacts f k
    at = core-facts f z
