-- `states::table_of` meets its contract. Assumes nothing.
use mathlib.Core.Path.{◌≡◌, refl, sym, ◌∙◌}
use mathlib.Core.List.{List, map}
use Prim.Native.Nat.{ℕ}
use lib.ListN.{length, length-map}
use borrow.Author.Rules.{rules}
use Rattle.states.proofs.table_of.Goals as goal

-- the length of an array of structs, which is known of the list of their values
length-mapped : (X Y : Type 0) (g : X → Y) (l : List X) (n : ℕ) → length (map g l) ≡ n → length l ≡ n
length-mapped X Y g l n e = sym (length-map l g) ∙ e

pub returns : goal.returns
returns c = (refl, search (rules, length-mapped))
