-- Code in which control only moves up, from start to start: accepted code, all of whose targets are above their instructions. Not here: what follows for
-- its paths (proofs/Greatest). Assumes nothing.
use mathlib.Core.Path.{◌≡◌}
use mathlib.Core.Bool.{true}
use mathlib.Core.List.{List}
use Prim.Native.Nat.{ℕ, ◌<◌}
use native.Mathlib.Omega.{arith}
use borrow.Author.Tests.{ltb-true}
use lib.ListN.{length}
use Rattle.verdict.specs.Verdict.{pick}
use Rattle.code.specs.Flow.{kind_at, goes_on, goes_to, after, target_at}
use Rattle.code.specs.Code.{is_start, judge_code}
use Rattle.code.proofs.Sound.{sound, start-zero, inside-code, each-passes}
use Rattle.bounds.specs.Bounds.{rises, all_rise}

-- p is the start of an instruction
abbrev pub Start : List ℕ → ℕ → Type 0
Start c p = is_start c p ≡ true

pub record Rising (c : List ℕ) : Type 0 where
  pub first : Start c 0
  pub inside : (p : ℕ) → Start c p → p < length c
  pub onward : (p : ℕ) → Start c p → goes_on (kind_at c p) ≡ true → (p < after c p) × Start c (after c p)
  pub upward : (p : ℕ) → Start c p → goes_to (kind_at c p) ≡ true → (p < target_at c p) × Start c (target_at c p)

above : (c : List ℕ) (p : ℕ) → rises c p ≡ true → goes_to (kind_at c p) ≡ true → p < target_at c p
unfolding rises pick
above c p r o = ltb-true _ _ (rw o at r)

pub rising : (c : List ℕ) → 0 < length c → judge_code c ≡ 0 → all_rise c ≡ true → Rising c
unfolding all_rise
rising c h z r =
    record {
      first = start-zero c h;
      inside = inside-code c;
      onward = λ p w o. let s = sound c p z w in (omega (arith, s.here.long), s.onward o);
      upward = λ p w o. let s = sound c p z w in (above c p (each-passes (rises c) c p r w) o, s.there o);
    }
