-- Document 02, 2.7: what a task will take, from the file alone. In order: the two numbers; the refusals 25 and 26; the answer; what is found of one core's
-- code. Not here: what the numbers say of a core's paths (specs/Paths) and of its runs (specs/Promised); lent outputs and their 21 (specs/Outputs).
use Rattle.std.specs.Prelude.{ℕ, zero, suc, ◌+◌, ◌-◌, min, max, ◌≡◌, Bool, true, false, List, [], ◌∷◌, ltb, leb, eqb, length, Option, Some, None, Result, Ok, Err}
use Rattle.verdict.specs.Numbers.{not_above, over_count}
use Rattle.verdict.specs.Verdict.{pick, next, unless, first}
use Rattle.verdict.specs.Refusals.{number_of}
use Rattle.verdict.specs.declared.Refusal.{Refusal}
use Rattle.code.specs.Commands.{Kind, Returns, Jumps, Branches, Calls, Passes}
use Rattle.code.specs.Flow.{kind_at, goes_to, after, target_at}
use Rattle.code.specs.Code.{all_from}
use Rattle.records.specs.File.{cores}
use Rattle.taskset.specs.Judge.{code_of, judge}
use Rattle.machine.specs.Calls.{buffer_size}
use Rattle.bounds.specs.declared.Taken.{Taken}
use Rattle.bounds.specs.declared.Numbers.{Numbers}

-- ---- the two numbers, from an instruction to the RETURN of its level. `next` is the number at the place after it, `there` the one at its T

unfoldable pub count_by : Kind → ℕ → ℕ → ℕ
count_by Returns next there = 1
count_by Jumps next there = there + 1
count_by Branches next there = max next there + 1
count_by Calls next there = there + next + 1
count_by Passes next there = next + 1

unfoldable pub depth_by : Kind → ℕ → ℕ → ℕ
depth_by Returns next there = 0
depth_by Jumps next there = there
depth_by Branches next there = max next there
depth_by Calls next there = max next (there + 1)
depth_by Passes next there = next

-- the number at p; k bounds how often control moves up
unfoldable pub along : (Kind → ℕ → ℕ → ℕ) → ℕ → List ℕ → ℕ → ℕ
along by zero c p = 0
along by (suc k) c p = by (kind_at c p) (along by k c (after c p)) (along by k c (target_at c p))

-- of a whole cycle. `greatest` of proofs/Greatest: where all targets are above their instructions, they are `Greatest c (longest c) (deepest c)`
unfoldable pub longest : List ℕ → ℕ
longest c = along count_by (length c) c 0

unfoldable pub deepest : List ℕ → ℕ
deepest c = along depth_by (length c) c 0

-- ---- the refusals

-- the T of the instruction at p, if it has one, is above it
unfoldable pub rises : List ℕ → ℕ → Bool
rises c p = pick (goes_to (kind_at c p)) (ltb p (target_at c p)) true

unfoldable pub all_rise : List ℕ → Bool
all_rise c = all_from (rises c) (length c) c 0

-- "25, a target_at not above its own instruction; 26, a count above 65,535"
unfoldable pub bounds_refusal : List ℕ → ℕ
bounds_refusal c = next (unless (all_rise c) not_above) (unless (leb (longest c) 65535) over_count)

-- "for each core in turn"
unfoldable pub cores_refusal : List ℕ → ℕ
cores_refusal f = first (λ k. bounds_refusal (code_of f k)) (cores f - 0) 0

unfoldable pub takes_refusal : List ℕ → ℕ
takes_refusal f = next (judge f) (cores_refusal f)

-- ---- the answer

-- of core k; 0 for a core number from n on
unfoldable pub longest_of : List ℕ → ℕ → ℕ
longest_of f k = pick (ltb k (cores f)) (longest (code_of f k)) 0

unfoldable pub deepest_of : List ℕ → ℕ → ℕ
deepest_of f k = pick (ltb k (cores f)) (deepest (code_of f k)) 0

-- the refusal number, 0 for none, and what the task takes; all 0 where the file is refused
pub record Takes : Type 0 where
  pub refusal : ℕ
  pub buffer : ℕ
  pub shared : ℕ
  pub table : ℕ
  pub count : List ℕ
  pub depth : List ℕ

-- "Turned away, lengths included"
abbrev pub no_takes : ℕ → Takes
no_takes r = record { refusal = r; buffer = 0; shared = 0; table = 0; count = 0 ∷ 0 ∷ 0 ∷ 0 ∷ []; depth = 0 ∷ 0 ∷ 0 ∷ 0 ∷ [] }

-- "the lengths of the data buffer, shared memory and core table, and .. the greatest instruction count and call depth of each core"
abbrev pub takes_in : List ℕ → Takes
takes_in f = record {
  refusal = 0;
  buffer = buffer_size f;
  shared = 1024;
  table = cores f;
  count = longest_of f 0 ∷ longest_of f 1 ∷ longest_of f 2 ∷ longest_of f 3 ∷ [];
  depth = deepest_of f 0 ∷ deepest_of f 1 ∷ deepest_of f 2 ∷ deepest_of f 3 ∷ [];
}

unfoldable pub takes_of : List ℕ → Takes
takes_of f = pick (eqb (takes_refusal f) 0) (takes_in f) (no_takes (takes_refusal f))

-- an answer of the code: what the task takes, or the refusal
abbrev pub takes_as : Result Taken Refusal → Takes
takes_as (Ok t) = record { refusal = 0; buffer = t.buffer; shared = t.shared; table = t.table; count = t.count; depth = t.depth }
takes_as (Err r) = no_takes (number_of r)

-- ---- what is found of one core's code

-- by the pass: whether all targets rise, and then the numbers, kept at 65,536 at most
pub record Measured (c : List ℕ) (rise : Bool) (count depth : ℕ) : Type 0 where
  pub right : rise ≡ all_rise c
  pub longest-kept : rise ≡ true → count ≡ min (longest c) 65536
  pub deepest-kept : rise ≡ true → depth ≡ min (deepest c) 65536

-- in the end: the refusal, and if there is none the numbers
pub record Found (c : List ℕ) (refusal count depth : ℕ) : Type 0 where
  pub right : refusal ≡ bounds_refusal c
  pub longest-found : refusal ≡ 0 → count ≡ longest c
  pub deepest-found : refusal ≡ 0 → depth ≡ deepest c

-- as the code answers: the numbers, or none where a target does not rise; the numbers, or the refusal
abbrev pub MeasuredAs : List ℕ → Option Numbers → Type 0
MeasuredAs c (Some n) = Measured c true n.count n.depth
MeasuredAs c None = Measured c false 0 0

abbrev pub FoundAs : List ℕ → Result Numbers Refusal → Type 0
FoundAs c (Ok n) = Found c 0 n.count n.depth
FoundAs c (Err r) = Found c (number_of r) 0 0
