-- Document 01, "Types and commands": the twelve types with their widths, and which types each typed command takes.
use Rattle.std.specs.Prelude.{ℕ, ◌%◌, Bool, false, [], ◌∷◌, ◌==◌, nat_le, slice_index}
use Rattle.verdict.specs.Verdict.{pick, both, within}

-- 0 BOOL, 1 SINT, 2 BYTE, 3 INT, 4 WORD, 5 DINT, 6 DWORD, 7 LINT, 8 LWORD, 9 REAL, 10 LREAL, 11 TIME: bytes of each, 0 for no type
unfoldable pub width_of : ℕ → ℕ
width_of t = slice_index (1 ∷ 1 ∷ 1 ∷ 2 ∷ 2 ∷ 4 ∷ 4 ∷ 8 ∷ 8 ∷ 4 ∷ 8 ∷ 4 ∷ []) t

-- the command with this code byte has a type byte, and t is on its list
unfoldable pub takes : ℕ → ℕ → Bool
takes code t =
    pick (within 16 17 code) (within 1 11 t)  -- ADD SUB
    (pick (within 18 19 code) (within 1 10 t)  -- MUL DIV
    (pick (code == 20) (within 1 8 t)  -- MOD
    (pick (within 24 27 code) (both (nat_le t 8) (t % 2 == 0))  -- AND OR XOR NOT: BOOL BYTE WORD DWORD LWORD
    (pick (within 28 31 code) (both (within 2 8 t) (t % 2 == 0))  -- SHL SHR ROL ROR: BYTE WORD DWORD LWORD
    (pick (within 32 37 code) (nat_le t 11) false)))))  -- GT GE EQ LE LT NE
