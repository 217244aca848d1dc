-- Document 02, 2.14: the memory window. "Given which of the two, a core, a start and a length, show that stretch of the task file or of the data
-- memory itself." In order: what can be shown of a core, and where it stands; the refusal; the window. Not here: where the stretch stands as a
-- place in memory, which the contract of `window` says of pointers.
use Rattle.std.specs.Prelude.{ℕ, ◌+◌, Bool, List, [], Result, Ok, Err, length, get_or, ltb, leb, eqb}
use Rattle.verdict.specs.Numbers.{bad_lengths, outside_window}
use Rattle.verdict.specs.Verdict.{pick, both, next, unless}
use Rattle.verdict.specs.Refusals.{number_of}
use Rattle.verdict.specs.declared.Refusal.{Refusal}
use Rattle.memory.specs.Memory.{total, split, part}
use Rattle.records.specs.File.{cores}
use Rattle.taskset.specs.Judge.{judge, code_of}
use Rattle.taskset.specs.Layout.{core_layout}
use Rattle.taskset.specs.Task.{sizes_of}
use Rattle.taskset.specs.declared.CoreLayout.{CoreLayout}
use Rattle.window.specs.declared.Shown.{Shown}
use Rattle.window.specs.declared.Shown.TheVariants.{Code, Data}
use Rattle.window.specs.declared.Place.{Place}
use Rattle.window.specs.declared.Stretch.{Stretch}

-- ---- what can be shown

-- a core's code, without its two length bytes; a core's data
abbrev pub shown_of : Shown → List ℕ → List ℕ → ℕ → List ℕ
shown_of Code f d k = code_of f k
shown_of Data f d k = get_or (split (sizes_of f) d) k []

-- where it stands in the file, or in the data buffer, and how long it is
abbrev pub shown_place : Shown → CoreLayout → Place
shown_place Code c = record { base = c.code; size = c.length }
shown_place Data c = record { base = c.base; size = c.size }

abbrev pub place_in : List ℕ → Shown → ℕ → Place
place_in f shown k = shown_place shown (core_layout f k)

-- ---- "34, no such core (here in place of 20), or a stretch that leaves the core's code or data; it follows the file's refusals and 21"

abbrev pub inside : List ℕ → Shown → ℕ → ℕ → ℕ → Bool
inside f shown k start count = both (ltb k (cores f)) (leb (start + count) (place_in f shown k).size)

unfoldable pub window_refusal : List ℕ → ℕ → Shown → ℕ → ℕ → ℕ → ℕ
window_refusal f buffer shown k start count =
    next (judge f) (next (unless (eqb buffer (total (sizes_of f))) bad_lengths) (unless (inside f shown k start count) outside_window))

-- ---- the window

-- "A refused window is empty"
unfoldable pub window_of : List ℕ → List ℕ → Shown → ℕ → ℕ → ℕ → List ℕ
window_of f d shown k start count = pick (eqb (window_refusal f (length d) shown k start count) 0) (part (shown_of shown f d k) start count) []

-- its number and its ends; zeros for the ends where it is refused
pub record Found : Type 0 where
  pub refusal : ℕ
  pub from : ℕ
  pub to : ℕ

unfoldable pub window_found : List ℕ → ℕ → Shown → ℕ → ℕ → ℕ → Found
window_found f buffer shown k start count =
    pick (eqb (window_refusal f buffer shown k start count) 0)
    (record { refusal = 0; from = (place_in f shown k).base + start; to = (place_in f shown k).base + start + count })
    (record { refusal = window_refusal f buffer shown k start count; from = 0; to = 0 })

-- an answer of the code in these terms
abbrev pub found_as : Result Stretch Refusal → Found
found_as (Ok s) = record { refusal = 0; from = s.from; to = s.to }
found_as (Err r) = record { refusal = number_of r; from = 0; to = 0 }

-- over C: the number, and the place at which the stretch begins in the file or in the data buffer; a refused call leaves the place
pub record WindowAt : Type 0 where
  pub number : ℕ
  pub place : ℕ

abbrev pub window_at : ℕ → ℕ → WindowAt
window_at number place = record { number = number; place = place }

unfoldable pub window_call : List ℕ → ℕ → Shown → ℕ → ℕ → ℕ → ℕ → WindowAt
window_call f buffer shown k start count place =
    window_at (window_refusal f buffer shown k start count)
    (pick (eqb (window_refusal f buffer shown k start count) 0) ((place_in f shown k).base + start) place)
