-- Document 02, 2.2: "Our download tool retries a file that was cut in transit, and must not retry one with bytes left over." What an accepted file
-- becomes on its way, under the profile that accepts it. Not here: the numbers of other files (`Judge`, `Items`).
use Rattle.std.specs.Prelude.{ℕ, ◌<◌, ◌≡◌, List, ◌++◌, length, take}
use Rattle.verdict.specs.Numbers.{cut_file, left_over}
use Rattle.code.specs.declared.Profile.{Profile}
use Rattle.code.specs.declared.Profile.TheVariants.{Full}
use Rattle.taskset.specs.Judge.{judge_for}

pub record InTransitFor (profile : Profile) (f : List ℕ) : Type 0 where
  -- cut at any place, it is refused as cut
  pub cut : (n : ℕ) → n < length f → judge_for profile (take n f) ≡ cut_file
  -- with anything behind it, as one with bytes left over
  pub followed : (b : List ℕ) → 0 < length b → judge_for profile (f ++ b) ≡ left_over

abbrev pub InTransit : List ℕ → Type 0
InTransit f = InTransitFor Full f
