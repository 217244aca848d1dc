-- What the question for the next core needs beside the records: that it is refused or answered as by value. Assumes nothing.
use mathlib.Core.Path.{◌≡◌, sym, ap, ◌∙◌}
use mathlib.Core.Logic.{◌≢◌}
use mathlib.Core.List.{List, [], ◌∷◌}
use Prim.Native.Nat.{ℕ}
use borrow.Author.Tests.{eq-eqb, ne_eqb}
use lib.ListN.{get_or}
use Rattle.verdict.proofs.Verdict.{pick_true, pick-false}
use Rattle.records.specs.File.{cores}
use Rattle.semaphore.specs.declared.Semaphore.{Semaphore}
use Rattle.states.specs.declared.Held.{Held}
use Rattle.states.specs.declared.CoreTask.{CoreTask}
use Rattle.states.specs.Tasks.{tasks_of, no_task}
use Rattle.machine.specs.Calls.{next_refusal}
use Rattle.snapshot.specs.declared.Table.{Table}
use Rattle.snapshot.specs.declared.Ring.{Ring}
use Rattle.snapshot.specs.Snapshot.{held, counts_of, refused_ring, ring_of}

abbrev pub whole_ring : List ℕ → List ℕ → Semaphore → ℕ → Ring
whole_ring f t p given = record { refusal = 0; cores = cores f; given = given; semaphore = p; counts = counts_of f t }

module _ (f t : List ℕ) (x : Table) (p : Semaphore) (given : ℕ) (s : Held) (es : s ≡ held x p) where
  pub ring-refused : (n : ℕ) (r : Ring) → n ≡ next_refusal f t s given → n ≢ 0 → r ≡ refused_ring n given p → r ≡ ring_of f t x p given
  unfolding ring_of
  ring-refused n r e ne er =
      let q : n ≡ next_refusal f t (held x p) given = e ∙ ap (λ (z : Held). next_refusal f t z given) es in
      er ∙ ap (λ (m : ℕ). refused_ring m given p) q ∙ sym (pick-false _ _ _ (ne_eqb _ 0 (λ z. ne (q ∙ z))))

  pub ring-whole : next_refusal f t s given ≡ 0 → (n : ℕ) (tasks : List CoreTask) → n ≡ cores f → tasks ≡ tasks_of f t
      → ◌≡◌ {A = Ring} record {
        refusal = 0;
        cores = n;
        given = given;
        semaphore = p;
        counts = (get_or tasks 0 no_task).count ∷ (get_or tasks 1 no_task).count ∷ (get_or tasks 2 no_task).count ∷ (get_or tasks 3 no_task).count ∷ [];
      } (ring_of f t x p given)
  unfolding ring_of
  ring-whole e n tasks en et =
      (λ i. record {
        refusal = 0;
        cores = en i;
        given = given;
        semaphore = p;
        counts = (get_or (et i) 0 no_task).count ∷ (get_or (et i) 1 no_task).count ∷ (get_or (et i) 2 no_task).count ∷ (get_or (et i) 3 no_task).count ∷ [];
      })
      ∙ sym (pick_true _ _ _ (eq-eqb _ 0 (ap (λ (z : Held). next_refusal f t z given) (sym es) ∙ e)))
