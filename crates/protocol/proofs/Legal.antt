-- Every list of takings that steps produce is legal (specs/Rerun). In order: tests; the claim, a step at a time.
-- Not here: that every legal list is produced (`Produced`). Assumes nothing.
use mathlib.Core.Path.{◌≡◌, refl, ◌∙◌}
use mathlib.Core.Bool.{Bool, true, false}
use mathlib.Core.List.{List, [], ◌∷◌, ◌++◌}
use Prim.Native.Nat.{ℕ}
use lib.Dec.{T}
use Rattle.protocol.specs.State.{Plant, State, Task, Sample, core}
use Rattle.protocol.specs.Step.{Taking, reading, writing, step, takings, taking_of}
use Rattle.protocol.specs.Whole.{whole_one, whole}
use Rattle.verdict.specs.Verdict.{both}
use Rattle.protocol.specs.Laws.{Laws, SemaphoreHeld}
use Rattle.protocol.specs.Rerun.{any_left, accepts, legal}
use Rattle.protocol.proofs.View.{at, Moves, rests, waits, takes_read, reads_on, reads_last, runs, takes_write, writes_on, writes_last, view}
use Rattle.protocol.proofs.Steps.{held-step}
use Rattle.protocol.proofs.Whole.{Sim, sim-step}

-- ---- tests

both-T : (a b : Bool) → T a → T b → T (both a b)
both-T true b x y = y
both-T false b x y = x

pub both-0 : (a b : Bool) → T (both a b) → T a
both-0 true b x = tt
both-0 false b x = x

pub both-1 : (a b : Bool) → T (both a b) → T b
both-1 true b x = x
both-1 false b x = absurd x

both-assoc : (a b c : Bool) → both (both a b) c ≡ both a (both b c)
both-assoc true b c = refl
both-assoc false b c = refl

pub none_left : (l : List Sample) → l ≡ [] → T (any_left l) → ⊥
none_left l e x = rw e at x

-- ---- every list of takings that steps produce is legal

-- the test of a list goes on where its first part ended: the equation for a loop over the list
pub legal-append : (t : Task) (xs ys : List Taking) (p : Plant) → legal t (xs ++ ys) p ≡ both (legal t xs p) (legal t ys (whole t xs p))
legal-append t [] ys p = refl
legal-append t (x ∷ xs) ys p = rw (legal-append t xs ys (whole_one t x p), both-assoc (accepts t x p) (legal t xs (whole_one t x p)))

module _ (t : Task) (l : Laws t) where
  legal-step : (k : ℕ) (s : State) (w : Plant) → Sim t s w → (s' : State) (ts : List Taking) → Moves t k s s' ts → T (legal t ts w)
  unfolding accepts
  legal-step k s w sim s' ts (rests z) = tt
  legal-step k s w sim s' ts (waits i z u) = tt
  legal-step k s w sim s' ts (takes_read r rs i f u e d) =
      let q : core w k ≡ at s k = sim.same-core k ∙ rw e in
      both-T (accepts t (reading k) w) true (rw (q, e, d) tt) tt
  legal-step k s w sim s' ts (reads_on m ms i e d) = tt
  legal-step k s w sim s' ts (reads_last i e d) = tt
  legal-step k s w sim s' ts (runs i e) = tt
  legal-step k s w sim s' ts (takes_write i f u e) =
      let q : core w k ≡ at s k = sim.same-core k ∙ rw e in
      both-T (accepts t (writing k) w) true (rw (q, e) tt) tt
  legal-step k s w sim s' ts (writes_on m ms i e d) = tt
  legal-step k s w sim s' ts (writes_last i e d) = tt

  pub legal-run : (ks : List ℕ) (s : State) (w : Plant) → Sim t s w → SemaphoreHeld s → T (legal t (takings t ks s) w)
  legal-run [] s w sim hd = tt
  legal-run (k ∷ ks) s w sim hd =
      rw (legal-append t (taking_of t k s) (takings t ks (step t k s)) w)
      (both-T (legal t (taking_of t k s) w) _ (legal-step k s w sim (step t k s) (taking_of t k s) (view t k s))
      (legal-run ks (step t k s) (whole t (taking_of t k s) w) (sim-step t l k s w sim hd) (held-step t l k s hd)))
