-- `listing::write_takings` meets its contract. The invariant: the takings that are left are still to be written, and each before took three bytes.
-- Assumes nothing.
use Prim.Native.Nat.{ℕ, ◌+◌}
use mathlib.Core.Path.{◌≡◌, sym, ap, ◌∙◌}
use mathlib.Core.List.{map}
use native.Mathlib.Omega.{arith}
use lib.ListN.{take, drop, get_or, length-take}
use Rattle.std.proofs.lemmas.List.{take_min}
use Rattle.memory.specs.Memory.{flat}
use Rattle.listing.specs.Listing.{taking_text}
use Rattle.listing.proofs.Writing.{writing_start, writing_more, writing-end}
use Rattle.listing.proofs.Takings.{first-taking, last-taking, length-taking}
use Rattle.listing.proofs.write_takings.Goals as goal

pub loop-byte-init : goal.loop-byte-init
loop-byte-init c = let a = c.args in
    let same : take a.taken a.list.now ≡ take c.min.result a.list.now = sym (rw c.min.ensures (take_min a.taken a.list.now)) in
    (omega arith, rw same (writing_start a.out.now a.at _))

pub loop-byte-preserved : goal.loop-byte-preserved
loop-byte-preserved c = let list = take c.min.result c.args.list.now in
    let l = c.loop-byte in (
      omega arith,
      writing_more (taking_text (get_or list l.byte-index 0)) (flat (map taking_text (drop (l.byte-index + 1) list)))
          l.invariant.1 (first-taking list l.byte-index c.loop-byte-test.true) c.write_taking-next.ensures.0
          (c.write_taking-next.ensures.1 ∙ ap (λ (n : ℕ). l.next + n) (length-taking (get_or list l.byte-index 0))),
    )

pub returns : goal.returns
returns c = let list = take c.min.result c.args.list.now in
    let w = writing-end c.loop-byte.invariant.1 (last-taking list c.loop-byte.byte-index c.loop-byte-test.false) in
    (w.0, w.1, omega (arith, length-take c.min.result c.args.list.now, c.min.ensures))
