-- What loading answers, where the file is refused and where it is accepted, under any profile and under the full one; core k of a layout. Assumes nothing.
use mathlib.Core.Path.{◌≡◌, refl, sym, ap, ◌∙◌}
use mathlib.Core.List.{List}
use Prim.Native.Nat.{ℕ, zero, suc, ◌<◌}
use native.Mathlib.Omega.{arith}
use lib.ListN.{get_or}
use borrow.Author.Tests.{eq-eqb, ne_eqb}
use Rattle.std.specs.Prelude.{Ok, Err}
use Rattle.verdict.specs.Verdict.{pick}
use Rattle.verdict.specs.Refusals.{number_of}
use Rattle.verdict.specs.declared.Refusal.{Refusal}
use Rattle.verdict.proofs.Verdict.{pick_true}
use Rattle.verdict.proofs.Refusals.{refused}
use Rattle.code.specs.declared.Profile.{Profile}
use Rattle.code.specs.declared.Profile.TheVariants.{Full}
use Rattle.taskset.specs.Judge.{judge_for, judge}
use Rattle.taskset.specs.Layout.{no_core, core_layout, layout_of, Loaded, load_for, load_of, loaded_as}
use Rattle.taskset.proofs.Narrowed.{any-is-full}

-- core k of a layout
pub core-of : (f : List ℕ) (k : ℕ) → k < 4 → get_or (layout_of f).core k no_core ≡ core_layout f k
core-of f zero h = refl
core-of f (suc zero) h = refl
core-of f (suc (suc zero)) h = refl
core-of f (suc (suc (suc zero))) h = refl
core-of f (suc (suc (suc (suc k)))) h = absurd (omega arith)

-- the answer where the file is refused
pub file-refused : (o : Profile) (f : List ℕ) (r : Refusal) → number_of r ≡ judge_for o f → loaded_as (Err r) ≡ load_for o f
unfolding load_for pick
file-refused o f r e = rw (sym e, ne_eqb _ _ (refused r))

module _ (o : Profile) (f : List ℕ) (x : Loaded) (e : x ≡ load_for o f) where
  pub file-judged-for : x.refusal ≡ judge_for o f
  unfolding load_for
  file-judged-for = ap (λ (y : Loaded). y.refusal) e

  -- what a profile accepts, the full one does
  pub file-accepted-for : x.refusal ≡ 0 → judge f ≡ 0
  file-accepted-for z = any-is-full o f (sym file-judged-for ∙ z)

  pub file-laid-for : x.refusal ≡ 0 → x.layout ≡ layout_of f
  unfolding load_for
  file-laid-for z = ap (λ (y : Loaded). y.layout) e ∙ pick_true _ _ _ (eq-eqb _ _ (sym file-judged-for ∙ z))

module _ (f : List ℕ) (x : Loaded) (e : x ≡ load_of f) where
  pub file-judged : x.refusal ≡ judge f
  file-judged = file-judged-for Full f x e

  pub file-accepted : x.refusal ≡ 0 → judge f ≡ 0
  file-accepted z = file-accepted-for Full f x e z

  pub file-laid : x.refusal ≡ 0 → x.layout ≡ layout_of f
  file-laid z = file-laid-for Full f x e z
