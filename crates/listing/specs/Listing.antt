-- Document 01, "`cores`": what the program prints, as a list of ASCII bytes.
-- In order: numbers; the core table; the takings; the three texts. Every line ends in a line feed.
-- Every function is total: a core of the order list is below 4, so that it has one digit, but no definition asks for it.
use Rattle.std.specs.Prelude.{ℕ, zero, suc, ◌+◌, ◌/◌, ◌%◌, List, [], ◌∷◌, ◌++◌, map, take, ltb}
use Rattle.verdict.specs.Verdict.{pick}
use Rattle.memory.specs.Memory.{flat}
use Rattle.protocol.specs.declared.Registers.{Registers}
use Rattle.states.specs.declared.Held.{Held}

abbrev pub line_feed : ℕ
line_feed = 10

abbrev pub space : ℕ
space = 32

-- ---- numbers

-- a digit, from "0" on
abbrev pub digit : ℕ → ℕ
digit d = 48 + d

-- v in base ten without leading zeros, if n digits are enough
unfoldable pub digits : ℕ → ℕ → List ℕ
digits zero v = []
digits (suc n) v = pick (ltb v 10) (digit v ∷ []) (digits n (v / 10) ++ (digit (v % 10) ∷ []))

-- v in base ten: v + 1 digits are always enough
unfoldable pub decimal : ℕ → List ℕ
decimal v = digits (suc v) v

-- a number and the byte that ends it
unfoldable pub column : ℕ → ℕ → List ℕ
column v end = decimal v ++ (end ∷ [])

-- ---- the core table

-- "core mode cycles flags count"
unfoldable pub header : List ℕ
header =
    99 ∷ 111 ∷ 114 ∷ 101 ∷ space
    ∷ 109 ∷ 111 ∷ 100 ∷ 101 ∷ space
    ∷ 99 ∷ 121 ∷ 99 ∷ 108 ∷ 101 ∷ 115 ∷ space
    ∷ 102 ∷ 108 ∷ 97 ∷ 103 ∷ 115 ∷ space
    ∷ 99 ∷ 111 ∷ 117 ∷ 110 ∷ 116 ∷ line_feed ∷ []

-- the line of core k
unfoldable pub core_line : ℕ → Registers → List ℕ
core_line k r =
    column k space
    ++ (column r.mode space
    ++ (column r.cycles space
    ++ (column r.flags space
    ++ column r.count line_feed)))

-- the lines of the cores from k on
unfoldable pub core_lines : ℕ → List Registers → List ℕ
core_lines k [] = []
core_lines k (r ∷ rs) = core_line k r ++ core_lines (k + 1) rs

-- ---- the takings

-- r for a reading, w for a writing; the order list's byte is the core, plus 16 for a writing
unfoldable pub kind_letter : ℕ → ℕ
kind_letter b = pick (ltb b 16) 114 119

unfoldable pub taking_text : ℕ → List ℕ
taking_text b = space ∷ digit (b % 16) ∷ kind_letter b ∷ []

-- "order"
unfoldable pub order_word : List ℕ
order_word = 111 ∷ 114 ∷ 100 ∷ 101 ∷ 114 ∷ []

unfoldable pub order_line : List ℕ → List ℕ
order_line takings = order_word ++ (flat (map taking_text takings) ++ (line_feed ∷ []))

-- ---- the three texts

-- what comes before the takings
unfoldable pub head : ℕ → Held → List ℕ
head n s = header ++ (core_lines 0 (take n s.cores) ++ order_word)

-- the listing of n cores and of the takings
unfoldable pub listing : ℕ → Held → List ℕ → List ℕ
listing n s takings = header ++ (core_lines 0 (take n s.cores) ++ order_line takings)

-- "refused", a space and the number
unfoldable pub refused_text : ℕ → List ℕ
refused_text number = 114 ∷ 101 ∷ 102 ∷ 117 ∷ 115 ∷ 101 ∷ 100 ∷ space ∷ column number line_feed

-- "long"
unfoldable pub long_text : List ℕ
long_text = 108 ∷ 111 ∷ 110 ∷ 103 ∷ line_feed ∷ []
