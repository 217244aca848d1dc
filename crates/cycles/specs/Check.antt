-- Document 02, 2.9: the test of its condition, asked of a task set file. `checked` of proofs/Check proves `Checked` of every file: the answer is exact.
-- In order: the answer; its numbers; what it says. Not here: what lines and rings are (crate protocol, specs/Cycles), and what follows where the lines
-- are free (specs/Serial).
use Rattle.std.specs.Prelude.{ℕ, ◌≡◌, ◌≢◌, ◌↔◌, List, eqb, Result, Ok, Err}
use Rattle.verdict.specs.Verdict.{pick}
use Rattle.protocol.specs.Cycles.{reads_from, line_between, OneWay, NoRing, is_one_way, no_ring}
use Rattle.taskset.specs.Judge.{judge}
use Rattle.taskset.specs.Task.{variables_of}
use Rattle.cycles.specs.Serial.{Ringless}
use Rattle.cycles.specs.declared.Lines.{Lines}
use Rattle.cycles.specs.declared.Lines.TheVariants.{Free, EachOther, Ringed}

-- ---- the answer: the file is judged first; a refusal is its number

unfoldable pub lines_of : List ℕ → Result Lines ℕ
lines_of f =
    pick (eqb (judge f) 0)
    (pick (is_one_way (reads_from (variables_of f))) (pick (no_ring (line_between (variables_of f))) (Ok Free) (Ok Ringed)) (Ok EachOther))
    (Err (judge f))

-- ---- its numbers

-- the refusal number, 0 for none
abbrev pub lines_refusal : Result Lines ℕ → ℕ
lines_refusal (Ok l) = 0
lines_refusal (Err n) = n

-- the byte that says which, where x stood in it; a refused call leaves it
abbrev pub lines_byte : {E : Type 0} → ℕ → Result Lines E → ℕ
lines_byte x (Err e) = x
lines_byte x (Ok Free) = 0
lines_byte x (Ok EachOther) = 1
lines_byte x (Ok Ringed) = 2

-- ---- what it says

pub record Checked (f : List ℕ) : Type 0 where
  -- a refusal is that of the file
  pub refused : (n : ℕ) → (lines_of f ≡ Err n) ↔ ((judge f ≡ n) × (n ≢ 0))
  -- free: the file is accepted, no two cores read each other, and the lines form no ring
  pub free : (lines_of f ≡ Ok Free) ↔ ((judge f ≡ 0) × Ringless f)
  pub each-other : (lines_of f ≡ Ok EachOther) ↔ ((judge f ≡ 0) × (OneWay (reads_from (variables_of f)) → ⊥))
  pub ringed : (lines_of f ≡ Ok Ringed) ↔ ((judge f ≡ 0) × OneWay (reads_from (variables_of f)) × (NoRing (line_between (variables_of f)) → ⊥))
