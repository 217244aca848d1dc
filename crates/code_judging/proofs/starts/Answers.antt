-- Accepted code is laid, so the marks are its starts.
use mathlib.Core.Path.{◌≡◌, refl, ◌∙◌}
use mathlib.Core.Bool.{false}
use mathlib.Core.List.{List}
use Prim.Native.Nat.{ℕ}
use lib.ListN.{length}
use Rattle.std.specs.Prelude.{Result, Ok, Err}
use Rattle.std.specs.Result.{MatchResult}
use Rattle.verdict.specs.declared.Refusal.{Refusal}
use Rattle.verdict.specs.Refusals.{number_of}
use Rattle.verdict.proofs.Verdict.{next-zero}
use Rattle.verdict.proofs.Refusals.{refused}
use Rattle.code.specs.declared.Profile.{Profile}
use Rattle.code.specs.Code.{laid, judge_code_for}
use Rattle.code.specs.Judging.{Marked, Pass}
use Rattle.code_judging.specs.declared.Laid.{Laid}
use Rattle.code_judging.proofs.starts.Goals as goal

laid-marks : (o : Profile) (c marks : List ℕ) (n : ℕ) (r : Result Laid Refusal)
    → MatchResult r (λ m. Pass o c n 0 m.last m.outside marks) (λ e. Pass o c n (number_of e) 0 false marks) → laid o (length c) c 0 ≡ 0
    → (length marks ≡ n) × Marked c marks
laid-marks o c marks n (Ok m) pass z = (pass.size, pass.marked refl)
laid-marks o c marks n (Err e) pass z = absurd (refused e (pass.right ∙ z))

pub returns : goal.returns
unfolding judge_code_for
returns c = let m = laid-marks _ _ _ _ c.lay.result c.lay.ensures (next-zero _ _ c.requires.1).0 in (m.0 ∙ c.cleared-marks.ensures.0, m.1)
