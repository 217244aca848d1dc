-- Document 01: "The file is judged front to back: presence of each item (1), then the item; an item is the mark, a count or length, a core's
-- three numbers, a variable's record or a core's code. Overlap follows the last variable; targets follow that core's instructions; leftover
-- bytes come last." Document 02, 2.2: they are 24, and 1 is a file cut short; 2.12: a start value is
-- tested with its pair ahead of them (31). A line below is an item with its rules and their numbers, in that order; the rules are those of `Rules`, and of the same
-- files of the crates `records` and `code`. Not here: how a loader computes the number (`Judge`).
use Rattle.std.specs.Prelude.{ℕ, ◌+◌, ◌≤◌, ◌≡◌, List, [], ◌∷◌, length}
use Rattle.verdict.specs.Numbers.{cut_file, no_mark, bad_core, bad_variable, overlapping, bad_instruction, left_over, bad_start}
use Rattle.verdict.specs.Items.{From, numbers, Item, item, for_each, in_turn}
use Rattle.memory.specs.Memory.{word}
use Rattle.code.specs.declared.Profile.{Profile}
use Rattle.code.specs.declared.Profile.TheVariants.{Full}
use Rattle.code.specs.Rules.{code_items_for}
use Rattle.records.specs.File.{cores, core_place, data_size, count_place, variables, record_place, variable_at}
use Rattle.records.specs.Rules.{CoreRulesFor, VariableRules}
use Rattle.taskset.specs.Judge.{code_place, code_of, start_sections, start_place, pair_place, file_end}
use Rattle.taskset.specs.Rules.{Mark, NoOverlap, PairRules}

-- the file has n bytes at least
abbrev pub Present : List ℕ → ℕ → Type 0
Present f n = n ≤ length f

-- a core's three numbers; a variable's record; the length of a core's code, and the code
abbrev pub core_items : Profile → List ℕ → ℕ → List Item
core_items profile f k = item cut_file (Present f (core_place k + 6)) ∷ item bad_core (CoreRulesFor profile f k) ∷ []

abbrev pub variable_items : List ℕ → ℕ → List Item
variable_items f i = item cut_file (Present f (record_place f i + 12)) ∷ item bad_variable (VariableRules f (variable_at f i)) ∷ []

abbrev pub length_items : List ℕ → ℕ → List Item
length_items f p = item cut_file (Present f (p + 2)) ∷ item bad_instruction (From 1 8192 (word f p)) ∷ item cut_file (Present f (p + 2 + word f p)) ∷ []

-- the count of a core's start values; each of them
abbrev pub pair_items : List ℕ → ℕ → ℕ → ℕ → List Item
pair_items f size p i = item cut_file (Present f (pair_place p i + 3)) ∷ item bad_start (PairRules f size p i) ∷ []

abbrev pub start_items : List ℕ → ℕ → ℕ → List Item
start_items f size p = in_turn ((item cut_file (Present f (p + 2)) ∷ []) ∷ for_each (numbers (word f p) 0) (pair_items f size p) ∷ [])

unfoldable pub file_items_for : Profile → List ℕ → List Item
file_items_for profile f =
    in_turn
    ((item cut_file (Present f 4) ∷ item no_mark (Mark f) ∷ [])  -- the mark
    ∷ (item cut_file (Present f 5) ∷ item bad_core (From 1 4 (cores f)) ∷ [])  -- the number of cores
    ∷ for_each (numbers (cores f) 0) (core_items profile f)
    ∷ (item cut_file (Present f (count_place f + 1)) ∷ item bad_variable (variables f ≤ 64) ∷ [])  -- the number of variables
    ∷ for_each (numbers (variables f) 0) (variable_items f)
    ∷ (item overlapping (NoOverlap f) ∷ [])  -- overlap follows the last variable
    ∷ for_each (numbers (cores f) 0) (λ k. in_turn (length_items f (code_place f k) ∷ code_items_for profile (code_of f k) ∷ []))
    ∷ for_each (numbers (start_sections f) 0) (λ k. start_items f (data_size f k) (start_place f k))  -- in a file of the new form
    ∷ (item left_over (file_end f ≡ length f) ∷ [])  -- leftover bytes come last
    ∷ [])

abbrev pub file_items : List ℕ → List Item
file_items f = file_items_for Full f
