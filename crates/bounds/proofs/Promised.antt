-- What the call answers of a file holds of every list of steps and of every list of calls from the fresh state. Not here: one core through every step
-- (proofs/Spared); that the numbers are the greatest (proofs/Greatest). Assumes nothing.
use mathlib.Core.Path.{◌≡◌, refl, sym, ap, ◌∙◌, subst}
use mathlib.Core.List.{List}
use Prim.Native.Nat.{ℕ, ◌-◌, ◌<◌}
use native.Mathlib.Omega.{arith}
use borrow.Author.Tests.{lt-ltb}
use lib.ListN.{length, get_or}
use Rattle.verdict.proofs.Verdict.{pick_true, next-zero, unless-zero, first-zero}
use Rattle.records.specs.File.{cores, limit}
use Rattle.taskset.specs.Judge.{code_of, judge}
use Rattle.taskset.specs.Starts.{start_shared, starts_of}
use Rattle.taskset.proofs.Accepted.{core-facts}
use Rattle.taskset.proofs.Exact.{keeps-rules}
use Rattle.taskset.specs.Trace.{trace_refusal}
use Rattle.states.specs.Task.{task_of}
use Rattle.machine.specs.Calls.{fresh_refusal, fresh_call}
use Rattle.calls.specs.Calling.{Call, steps_of}
use Rattle.calls.proofs.Calling.{calls-interleaved}
use Rattle.bounds.specs.Paths.{Greatest}
use Rattle.bounds.specs.Bounds.{Takes, longest, deepest, all_rise, bounds_refusal, cores_refusal, takes_refusal, longest_of, deepest_of, takes_of}
use Rattle.bounds.specs.Promised.{count_in, depth_in, Spared, Promised, CallsPromised}
use Rattle.bounds.proofs.Rising.{Rising, rising}
use Rattle.bounds.proofs.Greatest.{greatest}
use Rattle.bounds.proofs.Answer.{four, none-refused, file-accepted, answer-is}
use Rattle.bounds.proofs.Spared.{spared}

module _ (f : List ℕ) (z : (takes_of f).refusal ≡ 0) where
  module _ (k : ℕ) (h : k < cores f) where
    core-none : bounds_refusal (code_of f k) ≡ 0
    unfolding takes_refusal cores_refusal
    core-none =
        first-zero (λ i. bounds_refusal (code_of f i)) (cores f - 0) 0 (next-zero (judge f) _ (none-refused f z)).1 k (omega arith) (omega arith)

    pub rises : Rising (code_of f k)
    unfolding bounds_refusal
    rises =
        let a = core-facts f (file-accepted f z) k h in
        rising (code_of f k) (omega (arith, a.some-code, a.code-length)) a.code-accepted (unless-zero (all_rise (code_of f k)) 24 (next-zero _ _ core-none).0)

    few : k < 4
    few = omega (arith, (keeps-rules f (file-accepted f z)).most-cores)

    pub count-is : count_in f k ≡ longest (code_of f k)
    unfolding longest_of
    count-is = ap (λ (x : Takes). get_or x.count k 0) (answer-is f z) ∙ four (longest_of f) k 0 few ∙ pick_true _ _ _ (lt-ltb _ _ h)

    pub depth_is : depth_in f k ≡ deepest (code_of f k)
    unfolding deepest_of
    depth_is = ap (λ (x : Takes). get_or x.depth k 0) (answer-is f z) ∙ four (deepest_of f) k 0 few ∙ pick_true _ _ _ (lt-ltb _ _ h)

    numbers : Greatest (code_of f k) (count_in f k) (depth_in f k)
    numbers = rw (count-is, depth_is) (greatest (code_of f k) rises)

    pub promised : (t ks : List ℕ) → Promised f t ks k
    unfolding task_of
    promised t ks =
        let s = spared (task_of f t) (code_of f) (limit f) refl k rises (starts_of f) (start_shared f) ks in
        let c = count-is in
        let d = depth_is in
        record { greatest = numbers; steps = record { limit-not-hit = λ l. s.0 (omega arith); calls-fit = λ l. s.1 (omega arith) } }

    -- whatever memories of the right sizes were lent for the fresh state, on any sound trace. That f and t are bytes is known of the types
    pub calls-promised : (t : List ℕ) → ((i : ℕ) → get_or f i 0 < 256) → ((i : ℕ) → get_or t i 0 < 256) → (d sh : List ℕ) → fresh_refusal f (length d) (length sh) ≡ 0
        → trace_refusal f t ≡ 0 → (cs : List Call) → CallsPromised f t d sh cs k
    calls-promised t bytes trace-bytes d sh e sound cs =
        let counted = calls-interleaved f t bytes trace-bytes d sh e sound cs in
        record {
          steps = counted.steps;
          spared = subst (Spared f k) (sym counted.steps) (promised t (steps_of f t cs (fresh_call f d sh))).steps;
        }
