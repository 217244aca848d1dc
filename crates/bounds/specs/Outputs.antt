-- Document 02, 2.7, with the answer in lent places, which is how C takes it: three lengths (data buffer, shared memory, core table), the counts and the
-- depths of the n cores. "Both come between 24 and 21": the answer's own refusals, then 21 where any output is too short.
-- In order: the refusal; what the call leaves. Not here: the answer by value (specs/Bounds).
use Rattle.std.specs.Prelude.{ℕ, List, [], ◌∷◌, leb, eqb, length}
use Rattle.verdict.specs.Numbers.{bad_lengths}
use Rattle.verdict.specs.Verdict.{pick, both, next, unless}
use Rattle.memory.specs.Memory.{splice, part}
use Rattle.bounds.specs.Bounds.{Takes, takes_of}

-- ---- the refusal, with so many places lent for lengths, counts and depths

unfoldable pub output_refusal : Takes → ℕ → ℕ → ℕ → ℕ
output_refusal x lengths counts depths = next x.refusal (unless (both (leb 3 lengths) (both (leb x.table counts) (leb x.table depths))) bad_lengths)

-- ---- what the call leaves

pub record Outputs : Type 0 where
  pub refusal : ℕ
  pub lengths : List ℕ
  pub counts : List ℕ
  pub depths : List ℕ

abbrev pub outputs : ℕ → List ℕ → List ℕ → List ℕ → Outputs
outputs r lengths counts depths = record { refusal = r; lengths = lengths; counts = counts; depths = depths }

-- the answer x stands at the front of each output, a count and a depth for each core; places past those stay
abbrev pub answered_in : Takes → List ℕ → List ℕ → List ℕ → Outputs
answered_in x lengths counts depths =
    outputs 0 (splice lengths 0 (x.buffer ∷ x.shared ∷ x.table ∷ [])) (splice counts 0 (part x.count 0 x.table)) (splice depths 0 (part x.depth 0 x.table))

-- with the refusal r: a refused call changes no place
abbrev pub output_by : ℕ → Takes → List ℕ → List ℕ → List ℕ → Outputs
output_by r x lengths counts depths = pick (eqb r 0) (answered_in x lengths counts depths) (outputs r lengths counts depths)

unfoldable pub takes_lent : List ℕ → List ℕ → List ℕ → List ℕ → Outputs
takes_lent f lengths counts depths =
    output_by (output_refusal (takes_of f) (length lengths) (length counts) (length depths)) (takes_of f) lengths counts depths
