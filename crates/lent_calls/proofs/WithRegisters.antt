-- Steps with lent registers leave what the steps by value leave, so lists that mix both interleave too.
-- Not here: calls on a lent table (`Calling`). Assumes nothing.
use mathlib.Core.Path.{◌≡◌, refl, sym, ap, ◌∙◌}
use mathlib.Core.Bool.{Bool, true, false}
use mathlib.Core.List.{List, [], ◌∷◌, map}
use Prim.Native.Nat.{ℕ, ◌<◌}
use native.Mathlib.Omega.{arith}
use borrow.Author.Tests.{ltb-false}
use lib.Dec.{eqb, ltb}
use lib.Seq.{set-get_or, set_out}
use lib.ListN.{length, get_or, set}
use Rattle.verdict.specs.Verdict.{pick}
use Rattle.verdict.proofs.Verdict.{pick_true, pick-false, by-pick}
use Rattle.protocol.specs.declared.Registers.{Registers}
use Rattle.records.specs.File.{cores}
use Rattle.taskset.specs.Trace.{trace_refusal}
use Rattle.taskset.proofs.Accepted.{length-listed}
use Rattle.states.specs.declared.Held.{Held}
use Rattle.states.specs.Machine.{no_registers, held_after}
use Rattle.runner.specs.Runs.{Left, ran_call}
use Rattle.machine.specs.Calls.{table_of, fresh_refusal, fresh_call, run_refusal, run_call, step_refusal, step_call}
use Rattle.calls.specs.Calling.{Lending, lent_of, Call, stepping, running, restored, leaves, calls}
use Rattle.calls.proofs.Calling.{calls-interleaved}
use Rattle.snapshot.specs.Snapshot.{with_registers, registers_after, step_registers}
use Rattle.lent_calls.specs.Calling.{lent_registers, leaves_registers}
use Rattle.lent_calls.specs.Calling.{RegistersLeave, MixedCall, by_value, with-registers, as_call, mixed_calls, MixedInterleaved}

with-own : (s : Held) (k : ℕ) → length s.cores ≡ 4 → with_registers s k (registers_after s k no_registers) ≡ s
unfolding with_registers
with-own s k four = go (ltb k 4) refl
  where
    go : (q : Bool) → ltb k 4 ≡ q → with_registers s k (pick (ltb k 4) (get_or s.cores k no_registers) no_registers) ≡ s
    go true e =
        ap (λ (l : List Registers). record { count = s.count; semaphore = s.semaphore; cores = l; places = s.places; offsets = s.offsets })
        (ap (set s.cores k) (pick_true _ _ _ e) ∙ set-get_or s.cores k no_registers)
    go false e =
        ap (λ (l : List Registers). record { count = s.count; semaphore = s.semaphore; cores = l; places = s.places; offsets = s.offsets })
        (set_out s.cores k _ (omega (arith, four, ltb-false k 4 e)))

pub registers-leave : (f t : List ℕ) (a b : Lending) (k : ℕ) (x : Left) → length x.answer.state.cores ≡ 4 → RegistersLeave f t a b k x
unfolding step_registers
registers-leave f t a b k x four =
    let same : leaves_registers f t a b k x ≡ leaves f t (stepping a b k) x =
    ap (λ (s : Held). restored a b x (step_call f t s (lent_of a x.memory) (lent_of b x.shared) k)) (with-own x.answer.state k four) in
    record {
      leaves-same = same;
      registers-same =
          ap (λ (y : Left). registers_after y.answer.state k (lent_registers x k)) same
          ∙ own (ltb k 4) refl;
    }
  where
    own : (q : Bool) → ltb k 4 ≡ q
        → registers_after (leaves f t (stepping a b k) x).answer.state k (lent_registers x k) ≡ lent_registers (leaves f t (stepping a b k) x) k
    own true e = pick_true _ _ _ e ∙ sym (pick_true _ _ _ e)
    own false e = pick-false _ _ _ e ∙ pick-false _ _ _ e ∙ sym (pick-false _ _ _ e)

-- a state's four registers stay four
four-kept : (f t : List ℕ) (c : Call) (x : Left) → length x.answer.state.cores ≡ 4 → length (leaves f t c x).answer.state.cores ≡ 4
unfolding step_call run_call ran_call held_after
four-kept f t (stepping a b k) x four = by-pick (λ (y : Left). length y.answer.state.cores ≡ 4) (eqb (step_refusal f t x.answer.state (lent_of a x.memory) (lent_of b x.shared) k) 0) _ _ (λ e. length-listed _ 4 0) (λ e. four)
four-kept f t (running a b order list) x four = by-pick (λ (y : Left). length y.answer.state.cores ≡ 4) (eqb (run_refusal f t x.answer.state (lent_of a x.memory) (lent_of b x.shared) order list) 0) _ _ (λ e. length-listed _ 4 0) (λ e. four)

four-fresh : (f d sh : List ℕ) → length (fresh_call f d sh).answer.state.cores ≡ 4
unfolding fresh_call table_of
four-fresh f d sh = by-pick (λ (y : Left). length y.answer.state.cores ≡ 4) (eqb (fresh_refusal f (length d) (length sh)) 0) _ _ (λ e. refl) (λ e. refl)

mixed-same : (f t : List ℕ) (cs : List MixedCall) (x : Left) → length x.answer.state.cores ≡ 4 → mixed_calls f t cs x ≡ calls f t (map as_call cs) x
mixed-same f t [] x four = refl
mixed-same f t (by_value c ∷ cs) x four = mixed-same f t cs (leaves f t c x) (four-kept f t c x four)
mixed-same f t (with-registers a b k ∷ cs) x four =
    ap (mixed_calls f t cs) (registers-leave f t a b k x four).leaves-same ∙ mixed-same f t cs (leaves f t (stepping a b k) x) (four-kept f t (stepping a b k) x four)

pub mixed-interleaved : (f t : List ℕ) → ((i : ℕ) → get_or f i 0 < 256) → ((i : ℕ) → get_or t i 0 < 256) → (d sh : List ℕ)
    → fresh_refusal f (length d) (length sh) ≡ 0 → trace_refusal f t ≡ 0 → (cs : List MixedCall) → MixedInterleaved f t d sh cs
mixed-interleaved f t bytes trace-bytes d sh e sound cs = record {
  same = mixed-same f t cs (fresh_call f d sh) (four-fresh f d sh);
  interleaved = calls-interleaved f t bytes trace-bytes d sh e sound (map as_call cs);
}
