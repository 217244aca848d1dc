-- The text of a run from the fresh state: what it answers is what document 01's refusals and run say. In order: the number of takings; a file that is
-- refused; the run from the fresh state; the text; a longer file. Assumes nothing.
use mathlib.Core.Path.{◌≡◌, refl, sym, ap, ap₂, ◌∙◌}
use mathlib.Core.Logic.{◌≢◌}
use mathlib.Core.Bool.{Bool, true, false}
use mathlib.Core.List.{List, [], ◌∷◌}
use Prim.Native.Nat.{ℕ, zero, suc, ◌≤◌, ◌<◌}
use native.Mathlib.Omega.{arith}
use borrow.Author.Tests.{eq-eqb, ne_eqb, eqb-true, ltb-false, le-leb}
use lib.Dec.{ltb, eqb}
use lib.ListN.{length, get_or, take, length-append, length-map}
use Rattle.verdict.specs.Verdict.{either, next}
use Rattle.verdict.proofs.Verdict.{absurd-bool, pick_true, pick-false, by-pick, yes, skip, stop}
use Rattle.memory.specs.Memory.{part, splice}
use Rattle.memory.proofs.Laws.{part-splice-same}
use Rattle.protocol.specs.State.{State, Task, core, mode}
use Rattle.protocol.specs.Step.{step, run, Taking, taken, taking_of, takings, encoded, order_list}
use Rattle.records.specs.File.{cores}
use Rattle.taskset.specs.Judge.{judge}
use Rattle.taskset.specs.Starts.{start_shared, start_buffer}
use Rattle.taskset.specs.Fresh.{fresh_of}
use Rattle.taskset.specs.Trace.{trace_refusal}
use Rattle.taskset.proofs.Exact.{keeps-rules}
use Rattle.states.specs.declared.Held.{Held}
use Rattle.states.specs.Machine.{state_of, held_after}
use Rattle.states.specs.Preparing.{held_refusal}
use Rattle.states.specs.Task.{task_of}
use Rattle.states.proofs.Accepted.{accepted-set}
use Rattle.runner.specs.declared.RunAnswer.{RunAnswer}
use Rattle.runner.specs.Runs.{Left, left_as, ran_call}
use Rattle.machine.specs.Calls.{call_refusal, table_of, run_refusal, run_call}
use Rattle.machine.specs.Judging.{first_run}
use Rattle.machine.proofs.Calls.{start_fits}
use Rattle.listing.specs.Listing.{listing, refused_text, long_text}
use Rattle.calls.proofs.Calling.{fresh-state}
use Rattle.std.specs.Prelude.{Result}
use Rattle.verdict.specs.declared.Refusal.{Refusal}
use Rattle.listing.specs.Writers.{text_left, text_call}
use Rattle.console.specs.Console.{too_long, refusal_of, state_after, takings_of, run_text, cores_text}
use Rattle.console.proofs.Fresh.{fresh-not-refused}

-- ---- the number of takings: at most one a step

one-taking : (m m' k : ℕ) → length (taken m m' k) ≤ 1
one-taking m m' k =
    by-pick (λ (l : List Taking). length l ≤ 1) _ _ _ (λ e. omega arith)
    (λ e. by-pick (λ (l : List Taking). length l ≤ 1) _ _ _ (λ z. omega arith) (λ z. omega arith))

few-takings : (t : Task) (ks : List ℕ) (s : State) → length (takings t ks s) ≤ length ks
unfolding taking_of
few-takings t [] s = omega arith
few-takings t (k ∷ ks) s =
    let one : length (taking_of t k s) ≤ 1 = one-taking (mode (core s.plant k)) (mode (core (step t k s).plant k)) k in
    let rest = few-takings t ks (step t k s) in
    omega (arith, length-append (taking_of t k s) (takings t ks (step t k s)))

few-listed : (t : Task) (ks : List ℕ) (s : State) → length (order_list t ks s) ≤ length ks
few-listed t ks s = omega (arith, length-map (takings t ks s) encoded, few-takings t ks s)

-- ---- a file that is refused

pub file-refused : (f t order : List ℕ) (r : ℕ) → r ≡ judge f → r ≢ 0 → refused_text r ≡ run_text f t order
unfolding run_text refusal_of
file-refused f t order r e n =
    let same : r ≡ refusal_of f t order = stop _ e n in
    ap refused_text same ∙ sym (pick-false _ _ _ (ne_eqb _ _ (λ w. n (same ∙ w))))

-- ---- the run from the fresh state

module _ (f t order list : List ℕ) (accepted : judge f ≡ 0) (bytes : (i : ℕ) → get_or f i 0 < 256) (trace-bytes : (i : ℕ) → get_or t i 0 < 256) (room : length order ≤ length list) where
  abbrev calls : ℕ
  calls = run_refusal f t (table_of (cores f) 4) (start_buffer f) (start_shared f) order list

  -- where the trace isn't refused, the fresh state isn't
  held : (a b c : ℕ) → (a ≡ 0 → b ≡ 0) → next (next a b) c ≡ next a c
  unfolding next
  held zero b c h = ap (λ (m : ℕ). next m c) (h refl)
  held (suc a) b c h = refl

  same-refusal : calls ≡ refusal_of f t order
  unfolding run_refusal call_refusal held_refusal refusal_of
  same-refusal =
      ap (next (judge f))
      (sym (skip (yes _ 21 (rw (start_fits f, le-leb (length order) (length list) room) refl)) refl)
      ∙ held (trace_refusal f t) _ _ (λ z. fresh-not-refused f t (accepted-set f t bytes trace-bytes accepted z)))

  module _ (y : RunAnswer) (e k l : List ℕ) (ran : left_as y e k l ≡ first_run f t order list) where
    run-answered : y.refusal ≡ refusal_of f t order
    unfolding first_run run_call ran_call
    run-answered =
        ap (λ (z : Left). z.answer.refusal) ran
        ∙ by-pick (λ (z : Left). z.answer.refusal ≡ calls) (eqb calls 0) _ _ (λ w. sym (eqb-true calls 0 w)) (λ w. refl)
        ∙ same-refusal

    -- ---- the text

    pub run-refused : y.refusal ≢ 0 → refused_text y.refusal ≡ run_text f t order
    unfolding run_text
    run-refused n = ap refused_text run-answered ∙ sym (pick-false _ _ _ (ne_eqb _ _ (λ w. n (run-answered ∙ w))))

    module _ (no : y.refusal ≡ 0) where
      none-refused : refusal_of f t order ≡ 0
      none-refused = sym run-answered ∙ no

      all-ran : left_as y e k l ≡ ran_call f t (table_of (cores f) 4) (start_buffer f) (start_shared f) order list
      unfolding first_run run_call
      all-ran = ran ∙ pick_true _ _ _ (eq-eqb _ _ (same-refusal ∙ none-refused))

      started : state_of f (table_of (cores f) 4) (start_buffer f) (start_shared f) ≡ fresh_of f
      started = fresh-state f (keeps-rules f accepted).most-cores

      state-is : y.state ≡ state_after f t order
      unfolding ran_call state_after
      state-is = ap (λ (z : Left). z.answer.state) all-ran ∙ ap (λ (s : State). held_after (cores f) (table_of (cores f) 4) (run (task_of f t) order s)) started

      count-is : y.state.count ≡ cores f
      unfolding state_after held_after table_of
      count-is = ap (λ (s : Held). s.count) state-is

      front : (s : State) → take (length (order_list (task_of f t) order s)) (splice list 0 (order_list (task_of f t) order s)) ≡ order_list (task_of f t) order s
      unfolding part
      front s = part-splice-same list 0 (order_list (task_of f t) order s) (omega (arith, few-listed (task_of f t) order s))

      takings-are : take y.taken l ≡ takings_of f t order
      unfolding ran_call takings_of
      takings-are =
          ap (λ (z : Left). take z.answer.taken z.order) all-ran
          ∙ front (state_of f (table_of (cores f) 4) (start_buffer f) (start_shared f))
          ∙ ap (order_list (task_of f t) order) started

      pub run-listed : listing y.state.count y.state (take y.taken l) ≡ run_text f t order
      unfolding run_text
      run-listed =
          ap₂ (λ (n : ℕ) (s : Held). listing n s (take y.taken l)) count-is state-is
          ∙ ap (listing (cores f) (state_after f t order)) takings-are
          ∙ sym (pick_true _ _ _ (eq-eqb _ _ none-refused))

-- ---- what a writer of the listing ensures, of another name of its text

-- a writer of the text a has written the text b, where these are the same
pub written : (out : List ℕ) {after : List ℕ} {r : Result ℕ Refusal} {a b : List ℕ} → a ≡ b → text_left r after ≡ text_call a out → text_left r after ≡ text_call b out
written out e w = w ∙ ap (λ (text : List ℕ). text_call text out) e

-- ---- a longer file

module _ (f t order : List ℕ) where
  pub long-text : too_long (length f) (length t) (length order) ≡ true → long_text ≡ cores_text f t order
  unfolding cores_text
  long-text e = sym (pick_true _ _ _ e)

  pub short-text : too_long (length f) (length t) (length order) ≡ false → run_text f t order ≡ cores_text f t order
  unfolding cores_text
  short-text e = sym (pick-false _ _ _ e)

pub short-order : (a b c : ℕ) → too_long a b c ≡ false → c ≤ 4096
unfolding too_long
short-order a b c e = go (ltb 82800 a) (ltb 4096 b) e
  where
    go : (x y : Bool) → either x (either y (ltb 4096 c)) ≡ false → c ≤ 4096
    go true y q = absurd-bool (sym q)
    go false true q = absurd-bool (sym q)
    go false false q = ltb-false 4096 c q
