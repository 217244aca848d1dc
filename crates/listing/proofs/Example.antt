-- Document 01's listing, byte by byte, and numbers at the ends of their ranges. Assumes nothing.
use mathlib.Core.Path.{◌≡◌, refl}
use mathlib.Core.List.{[], ◌∷◌, ◌++◌}
use Rattle.verdict.specs.Verdict.{pick}
use Rattle.memory.specs.Memory.{flat}
use Rattle.protocol.specs.declared.Registers.{Registers}
use Rattle.states.specs.declared.Held.{Held}
use Rattle.listing.specs.Listing.{digits, decimal, column, header, core_line, core_lines, kind_letter, taking_text, order_word, order_line, listing}

-- core 0 after its first cycle
abbrev after : Registers
after = record { mode = 0; counter = 0; offset = 0; depth = 0; count = 1; exchange = 0; cycles = 1; flags = 0; time = 0 }

abbrev ended : Held
ended = record { count = 1; semaphore = record { holder = 0; waiting = 0; line = [] }; cores = after ∷ after ∷ after ∷ after ∷ []; places = []; offsets = [] }

-- "0 0 1 0 1" and "order 0r 0w" after the header
pub document-example : listing 1 ended (0 ∷ 16 ∷ []) ≡
    header
    ++ (48 ∷ 32 ∷ 48 ∷ 32 ∷ 49 ∷ 32 ∷ 48 ∷ 32 ∷ 49 ∷ 10
    ∷ 111 ∷ 114 ∷ 100 ∷ 101 ∷ 114 ∷ 32 ∷ 48 ∷ 114 ∷ 32 ∷ 48 ∷ 119 ∷ 10 ∷ [])
unfolding listing core_lines core_line column decimal digits pick order_line order_word taking_text kind_letter flat
document-example = refl

pub numbers : (decimal 0 ≡ 48 ∷ []) × (decimal 10 ≡ 49 ∷ 48 ∷ []) × (decimal 65535 ≡ 54 ∷ 53 ∷ 53 ∷ 51 ∷ 53 ∷ [])
unfolding decimal digits pick
numbers = (refl, refl, refl)
