-- `packed::pack_at` meets its contract. The addresses are tried; then the digits are stored, or not held. Assumes nothing.
use Prim.Native.Nat.{ℕ, ◌+◌, ◌≤◌}
use mathlib.Core.Path.{ap, ◌∙◌, sym, subst}
use lib.ListN.{length}
use Rattle.values.specs.Types.{width_of}
use Rattle.values.proofs.Reading.{width_small}
use Rattle.memory.specs.Memory.{read_le}
use Rattle.values.specs.declared.Value.{Value}
use Rattle.std.specs.Prelude.{Option}
use Rattle.conversions.specs.Conversions.{result_as}
use Rattle.packed.specs.Packed.{packed_at, packed}
use Rattle.conversions.specs.Data.{settled}
use Rattle.packed.specs.Data.{packing}
use Rattle.commands.proofs.Attempts.{place-fits}
use Rattle.conversions.proofs.Data.{to_in, source_in, was-beyond, was-tried}
use Rattle.packed.proofs.pack_at.Goals as goal

pub either_beyond-requires : goal.either_beyond-requires
either_beyond-requires c = let a = c.args in (place-fits a.destination _ a.t c.requires.1 c.width_of-w.ensures, place-fits a.source _ a.t c.requires.2 c.width_of-w.ensures)

pub returns-then-either_beyond : goal.returns-then-either_beyond
unfolding packing
returns-then-either_beyond c = let a = c.args in
    was-beyond a.d.now a.destination _ a.source _ a.t a.t _ c.either_beyond.ensures c.width_of-w.ensures c.width_of-w.ensures (packed a.t (read_le a.d.now a.source (width_of a.t))) c.if-either_beyond.true

pub load-n-requires : goal.load-n-requires
load-n-requires c = let a = c.args in
    let e = c.width_of-w.ensures in (
      subst (λ (n : ℕ). a.source + n ≤ length a.d.now) (sym e) (source_in (length a.d.now) a.destination _ a.source _ a.t a.t _ c.either_beyond.ensures e e c.if-either_beyond.false),
      width_small a.t c.requires.0 e,
    )

pub to_packed-requires : goal.to_packed-requires
to_packed-requires c = width_small c.args.t c.requires.0 c.width_of-w.ensures

pub settle-requires : goal.settle-requires
settle-requires c = let a = c.args in (
  c.requires.0,
  to_in (length a.d.now) a.destination _ a.source _ a.t a.t _ c.either_beyond.ensures c.width_of-w.ensures
      c.width_of-w.ensures c.if-either_beyond.false,
)

pub returns : goal.returns
unfolding packing packed
returns c = let a = c.args in
    let w = c.width_of-w.ensures in
    was-tried a.d.now a.destination _ a.source _ a.t a.t _ c.either_beyond.ensures w w
    (packed a.t (read_le a.d.now a.source (width_of a.t))) c.if-either_beyond.false _ _
    (c.settle.ensures
    ∙ ap (λ (x : Option Value). settled a.t a.d.now a.destination (result_as a.t x))
    (c.to_packed.ensures ∙ ap (packed_at c.width_of-w.result) c.load-n.ensures.0 ∙ ap (λ (n : ℕ). packed_at n (read_le a.d.now a.source n)) w))
