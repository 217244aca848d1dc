-- The marked (M) bench values of document 01 as one table: each case with what the definitions give and what the document says. The theorem
-- for all of them is `marked` (proofs/Marked). In order: the kinds of cases; the two latches; steps against a held semaphore; the table.
use Rattle.std.specs.Prelude.{ℕ, ◌<◌, ◌≡◌, true, false, List, [], ◌∷◌, ◌++◌, ◌⊎◌, pos, negsuc}
use Rattle.std.proofs.Common.{inl, inr}
use Rattle.std.specs.Float.{fin}
use Rattle.values.specs.Values.{typed, stored, read_value}
use Rattle.values.specs.Commands.{command}
use Rattle.values.specs.declared.Value.{Value}
use Rattle.values.specs.declared.Value.TheVariants.{Bool as Truth, Signed, Unsigned, Real}
use Rattle.protocol.specs.Modes.{waiting_to_write}
use Rattle.protocol.specs.State.{State, Task, core, mode}
use Rattle.protocol.specs.Step.{in_line, step}

-- ---- the kinds of cases

-- `does code t a b r`: the command on a and b of type t gives r; `reads t bytes v`: the bytes stand for v; `latches f s r q v`: from Q = q, the
-- latch f gives v at the inputs s and r; `joins t k s`: by a step in s core k joins the line at its end, and nothing else changes; `waits t k s`: a step of core k
-- changes nothing in s
pub data Case : Type 0 where
  does : ℕ → ℕ → Value → Value → Value → Case
  reads : ℕ → List ℕ → Value → Case
  latches : (Value → Value → Value → Value) → Value → Value → Value → Value → Case
  joins : Task → ℕ → State → Case
  waits : Task → ℕ → State → Case

-- a command on values: the operands are stored, the result is read back
unfoldable pub result_of : ℕ → ℕ → Value → Value → Value
result_of code t a b = typed t (command code t (stored t a) (stored t b))

-- what the definitions give, a value or a state
unfoldable pub defined_outcome : Case → Value ⊎ State
defined_outcome (does code t a b v) = inl (result_of code t a b)
defined_outcome (reads t bytes v) = inl (read_value bytes t 0)
defined_outcome (latches f s r q v) = inl (f s r q)
defined_outcome (joins t k s) = inr (step t k s)
defined_outcome (waits t k s) = inr (step t k s)

-- what the document says
unfoldable pub document_outcome : Case → Value ⊎ State
document_outcome (does code t a b v) = inl v
document_outcome (reads t bytes v) = inl v
document_outcome (latches f s r q v) = inl v
document_outcome (joins t k s) = inr record { plant = s.plant; semaphore = record { holder = s.semaphore.holder; line = s.semaphore.line ++ (k ∷ []) } }
document_outcome (waits t k s) = inr s

-- ---- the latches, by the BOOL commands NOT (27), AND (24) and OR (25)

abbrev pub not_b : Value → Value
not_b a = result_of 27 0 a a

abbrev pub and_b : Value → Value → Value
and_b a b = result_of 24 0 a b

abbrev pub or_b : Value → Value → Value
or_b a b = result_of 25 0 a b

-- NOT R AND (Q OR S)
unfoldable pub RS : Value → Value → Value → Value
RS s r q = and_b (not_b r) (or_b q s)

-- S OR (NOT R AND Q)
unfoldable pub SR : Value → Value → Value → Value
SR s r q = or_b s (and_b (not_b r) q)

-- ---- a held semaphore

-- core k waits to write, some core holds the semaphore, and core k is not in line yet
pub record WaitsToWrite (k : ℕ) (s : State) : Type 0 where
  pub mode-3 : mode (core s.plant k) ≡ waiting_to_write
  pub held : 0 < s.semaphore.holder
  pub out : in_line k s.semaphore.line ≡ false

-- ---- the table, in the document's order; its steps are of any task, core and state (`marked` asks that these are `WaitsToWrite`)

unfoldable pub cases : Task → ℕ → State → List Case
cases t k s =
    does 16 3 (Signed (pos 32767)) (Signed (pos 1)) (Signed (negsuc 32767))  -- INT 32767 + 1 = -32768
    ∷ does 16 2 (Unsigned 200) (Unsigned 100) (Unsigned 44)  -- BYTE 200 + 100 = 44
    ∷ does 18 4 (Unsigned 65535) (Unsigned 65535) (Unsigned 1)  -- WORD 65535 × 65535 = 1
    ∷ does 19 1 (Signed (negsuc 6)) (Signed (pos 2)) (Signed (negsuc 2))  -- SINT -7 DIV 2 = -3
    ∷ does 20 1 (Signed (negsuc 6)) (Signed (pos 2)) (Signed (negsuc 0))  -- SINT -7 MOD 2 = -1
    ∷ does 19 1 (Signed (negsuc 127)) (Signed (negsuc 0)) (Signed (negsuc 127))  -- SINT -128 DIV -1 = -128
    ∷ does 30 2 (Unsigned 129) (Unsigned 1) (Unsigned 3)  -- BYTE 129 ROL 1 = 3
    ∷ does 28 2 (Unsigned 1) (Unsigned 8) (Unsigned 0)  -- BYTE 1 SHL 8 = 0
    ∷ reads 11 (0x88 ∷ 0x13 ∷ 0 ∷ 0 ∷ []) (Signed (pos 5000))  -- bytes 88 13 00 00 hex as TIME = 5,000
    ∷ does 16 9 (Real (fin false 1 (pos 24))) (Real (fin false 1 (pos 0))) (Real (fin false 1 (pos 24)))  -- REAL 16777216 + 1 = 16777216
    ∷ latches RS (Truth true) (Truth true) (Truth false) (Truth false)  -- S = R = 1 gives Q 0 in RS, from Q = 0
    ∷ latches RS (Truth true) (Truth true) (Truth true) (Truth false)  -- and from Q = 1
    ∷ latches SR (Truth true) (Truth true) (Truth false) (Truth true)  -- and 1 in SR, from Q = 0
    ∷ latches SR (Truth true) (Truth true) (Truth true) (Truth true)  -- and from Q = 1
    ∷ joins t k s  -- in mode 3 while another core holds the semaphore: the first such step joins (document 02, 2.4)
    ∷ waits t k (step t k s)  -- a second changes nothing
    ∷ []
