-- `listing::write_taking` meets its contract, byte by byte. Assumes nothing.
use mathlib.Core.Path.{refl, ap, ◌∙◌}
use mathlib.Core.List.{[], ◌∷◌}
use Prim.Native.Nat.{ℕ, ◌%◌}
use native.Mathlib.Omega.{arith}
use Rattle.memory.specs.Memory.{splice}
use Rattle.listing.specs.Listing.{taking_text, space, digit, kind_letter}
use Rattle.listing.proofs.Writing.{writing_start, writing_more, writing-last}
use Rattle.listing.proofs.write_taking.Goals as goal

pub returns : goal.returns
unfolding taking_text
returns c = let w = writing-last
    (writing_more (digit (c.args.byte % 16) ∷ []) (kind_letter c.args.byte ∷ [])
    (writing_more (space ∷ []) (digit (c.args.byte % 16) ∷ kind_letter c.args.byte ∷ [])
    (writing_start _ _ (taking_text c.args.byte)) refl c.put_byte-core.ensures.0 c.put_byte-core.ensures.1)
    refl c.put_byte-kind.ensures.0 c.put_byte-kind.ensures.1)
    (c.put_byte.ensures.0 ∙ ap (λ (x : ℕ). splice c.put_byte-kind.new.out c.put_byte-kind.result (x ∷ [])) c.kind_of.ensures)
    c.put_byte.ensures.1 in
    (w.0, omega arith)
