-- `exchange::copy_bytes` meets its contract. Assumes nothing.
use mathlib.Core.Path.{sym, ap, ◌∙◌}
use Prim.Native.Nat.{ℕ}
use Rattle.memory.specs.Memory.{splice, part}
use Rattle.exchange.proofs.copy_bytes.Goals as goal

pub returns-then-n-eq8 : goal.returns-then-n-eq8
returns-then-n-eq8 c = let s = c.args in
    c.copy_word.ensures ∙ ap (λ (m : ℕ). splice s.dst.now s.to (part s.src.now s.from m)) (sym c.if-n-eq8.true)
