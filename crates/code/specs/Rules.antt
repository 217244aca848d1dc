-- Document 01's rules of a core's code as rules: those of one instruction, "The code is instructions laid end to end. Each T is the start of
-- one. The last is RETURN or JMP."; and the order in which they are judged. In order: one instruction; instructions laid end to end; the code;
-- the items. Not here: the length of the code (crate `taskset`); the tests by which a loader judges (`Code`).
use Rattle.std.specs.Prelude.{ℕ, zero, suc, ◌+◌, ◌≤◌, ◌<◌, ◌≡◌, List, [], ◌∷◌, ◌++◌, true, ltb, length}
use Rattle.verdict.specs.Numbers.{bad_instruction, bad_target, wide_type_code}
use Rattle.verdict.specs.Verdict.{pick}
use Rattle.verdict.specs.Items.{From, OneOf, Item, item, for_each}
use Rattle.memory.specs.Memory.{byte, word}
use Rattle.code.specs.Commands.{known}
use Rattle.code.specs.Flow.{after}
use Rattle.code.specs.declared.Profile.{Profile}
use Rattle.code.specs.declared.Profile.TheVariants.{Full, Small}

-- ---- one instruction

-- "ADD and SUB take types 1..11, MUL and DIV 1..10, MOD 1..8, logic 0, 2, 4, 6, 8, shifts 2, 4, 6, 8, comparisons all."
pub record TypeRules (code type : ℕ) : Type 0 where
  pub sums : From 16 17 code → From 1 11 type
  pub products : From 18 19 code → From 1 10 type
  pub remainders : code ≡ 20 → From 1 8 type
  pub logic : From 24 27 code → OneOf (0 ∷ 2 ∷ 4 ∷ 6 ∷ 8 ∷ []) type
  pub shifts : From 28 31 code → OneOf (2 ∷ 4 ∷ 6 ∷ 8 ∷ []) type
  pub comparisons : From 32 37 code → type ≤ 11

-- refusal 6: "code byte, type, MCD length, element size or count outside its list; instruction cut"
pub record InstructionRules (c : List ℕ) (p : ℕ) : Type 0 where
  pub code-byte : known (byte c p) ≡ true
  pub type : TypeRules (byte c p) (byte c (p + 1))
  pub mcd-length : byte c p ≡ 6 → From 1 8 (byte c (p + 3))
  pub element-size : From 8 9 (byte c p) → OneOf (1 ∷ 2 ∷ 4 ∷ 8 ∷ []) (byte c (p + 7))
  pub element-count : From 8 9 (byte c p) → From 1 4096 (word c (p + 8))
  -- "A type outside 1 to 10 gives 6." (document 02, 2.3)
  pub from-type : byte c p ≡ 43 → From 1 10 (byte c (p + 1))
  pub to_type : byte c p ≡ 43 → From 1 10 (byte c (p + 2))
  -- "each with a type byte (2, 4, 6 or 8)", "Another type byte gives 6." (document 02, 2.8)
  pub packed-type : From 44 45 (byte c p) → OneOf (2 ∷ 4 ∷ 6 ∷ 8 ∷ []) (byte c (p + 1))
  pub uncut : after c p ≤ length c

-- the types that the instruction at p names: the type byte of a typed command, both of 43, that of 44 and 45 (document 02, 2.10)
pub data Names (c : List ℕ) (p : ℕ) : ℕ → Type 0 where
  typed : From 16 37 (byte c p) → Names c p (byte c (p + 1))
  converts-from : byte c p ≡ 43 → Names c p (byte c (p + 1))
  converts-to : byte c p ≡ 43 → Names c p (byte c (p + 2))
  packs : From 44 45 (byte c p) → Names c p (byte c (p + 1))

-- refusal 27: "no instruction naming types 7 to 10"
abbrev pub NoWide : List ℕ → ℕ → Type 0
NoWide c p = (type : ℕ) → Names c p type → From 7 10 type → ⊥

-- "JMP T; JZ addr T; JNZ addr T", "CALB instance T; CALF T": the T of the instruction at p
pub data Target (c : List ℕ) (p : ℕ) : ℕ → Type 0 where
  jmp : byte c p ≡ 1 → Target c p (word c (p + 1))
  jz-jnz : From 2 3 (byte c p) → Target c p (word c (p + 3))
  calb : byte c p ≡ 4 → Target c p (word c (p + 3))
  calf : byte c p ≡ 5 → Target c p (word c (p + 1))

-- ---- instructions laid end to end

-- the places at which the instructions start
pub data Start (c : List ℕ) : ℕ → Type 0 where
  first : 0 < length c → Start c 0
  then : {p : ℕ} → Start c p → after c p < length c → Start c (after c p)

-- the same as a list, from p on; k bounds their number
unfoldable pub starts_from : ℕ → List ℕ → ℕ → List ℕ
starts_from zero c p = []
starts_from (suc k) c p = pick (ltb p (length c)) (p ∷ starts_from k c (after c p)) []

-- ---- the code

-- "The code is instructions laid end to end."
abbrev pub Instructions : List ℕ → Type 0
Instructions c = (p : ℕ) → Start c p → InstructionRules c p

-- "Each T is the start of one."
abbrev pub Targets : List ℕ → Type 0
Targets c = (p t : ℕ) → Start c p → Target c p t → Start c t

-- "The last is RETURN or JMP."
abbrev pub Last : List ℕ → Type 0
Last c = (p : ℕ) → Start c p → after c p ≡ length c → OneOf (0 ∷ 1 ∷ []) (byte c p)

-- under the small profile, "no instruction naming types 7 to 10"
abbrev pub Carried : Profile → List ℕ → Type 0
Carried profile c = profile ≡ Small → (p : ℕ) → Start c p → NoWide c p

pub record WellFormedCodeFor (profile : Profile) (c : List ℕ) : Type 0 where
  pub instructions : Instructions c
  pub carried : Carried profile c
  pub targets : Targets c
  pub last : Last c

abbrev pub WellFormedCode : List ℕ → Type 0
WellFormedCode c = WellFormedCodeFor Full c

-- ---- the items, in the order in which they are judged: "targets follow that core's instructions"; 27 "at its instruction right after 6"

abbrev pub type_items : Profile → List ℕ → ℕ → List Item
type_items Full c p = []
type_items Small c p = item wide_type_code (NoWide c p) ∷ []

unfoldable pub code_items_for : Profile → List ℕ → List Item
code_items_for profile c =
    for_each (starts_from (length c) c 0) (λ p. item bad_instruction (InstructionRules c p) ∷ type_items profile c p)
    ++ (item bad_target (Targets c) ∷ item bad_target (Last c) ∷ [])

abbrev pub code_items : List ℕ → List Item
code_items c = code_items_for Full c
