-- A step call is the run of an order of one byte. Assumes nothing.
use mathlib.Core.Path.{◌≡◌, refl, ap, ap₂, ◌∙◌}
use mathlib.Core.Bool.{Bool, true, false}
use mathlib.Core.List.{List, [], ◌∷◌, ◌++◌, map}
use Prim.Native.Nat.{ℕ, suc}
use lib.Dec.{ltb, eqb}
use lib.ListN.{length}
use Rattle.verdict.specs.Verdict.{pick, both}
use Rattle.verdict.proofs.Verdict.{pick-ap}
use Rattle.protocol.specs.Step.{step, Taking, taking_of, encoded}
use Rattle.records.specs.File.{cores}
use Rattle.states.specs.declared.Held.{Held}
use Rattle.states.specs.Task.{task_of}
use Rattle.states.specs.Machine.{state_of, held_after, data_of}
use Rattle.runner.specs.declared.RunAnswer.{RunAnswer}
use Rattle.runner.specs.Runs.{Left, left_as, ran_call}
use Rattle.machine.specs.Calls.{call_refusal, answer_of, run_refusal, run_call, step_refusal, stepped, step_call}

-- what a call leaves without its order list
abbrev unlisted : Left → Left
unlisted x = left_as x.answer x.memory x.shared []

counted : (xs : List Taking) → length (map encoded (xs ++ [])) ≡ length xs
counted [] = refl
counted (x ∷ xs) = ap suc (counted xs)

both_one : (b : Bool) → both b true ≡ b
both_one true = refl
both_one false = refl

module _ (f t : List ℕ) (h : Held) (d sh : List ℕ) (k b : ℕ) where
  one-refusal : run_refusal f t h d sh (k ∷ []) (b ∷ []) ≡ step_refusal f t h d sh k
  unfolding run_refusal step_refusal
  one-refusal = ap (call_refusal f t h (length d) (length sh) true) (both_one (ltb k (cores f)))

  one-ran : unlisted (ran_call f t h d sh (k ∷ []) (b ∷ [])) ≡ stepped f t h d sh k
  unfolding ran_call
  one-ran = ap (λ (n : ℕ). left_as (record { refusal = 0; taken = n; state = held_after (cores f) h (step (task_of f t) k (state_of f h d sh)) }) (data_of (step (task_of f t) k (state_of f h d sh))) (step (task_of f t) k (state_of f h d sh)).plant.shared [])
      (counted (taking_of (task_of f t) k (state_of f h d sh)))

  one-call : unlisted (run_call f t h d sh (k ∷ []) (b ∷ [])) ≡ step_call f t h d sh k
  unfolding run_call step_call
  one-call =
      pick-ap unlisted (eqb (run_refusal f t h d sh (k ∷ []) (b ∷ [])) 0) _ _
      ∙ ap₂ (λ (r : ℕ) (x : Left). pick (eqb r 0) x (left_as (answer_of r h) d sh [])) one-refusal one-ran

  pub step-as-run : (x : RunAnswer) (d' sh' list' : List ℕ) → left_as x d' sh' list' ≡ run_call f t h d sh (k ∷ []) (b ∷ []) → left_as x d' sh' [] ≡ step_call f t h d sh k
  step-as-run x d' sh' list' e = ap unlisted e ∙ one-call
