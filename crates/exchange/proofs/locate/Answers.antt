-- `exchange::locate` meets its contract. The invariant: the cursor stands right after i bytes. Assumes nothing.
use mathlib.Core.Path.{◌≡◌, subst}
use Prim.Native.Nat.{ℕ}
use native.Mathlib.Omega.{arith}
use Rattle.exchange.specs.Exchange.{At}
use Rattle.exchange.proofs.locate.Goals as goal

pub start-cursor-requires : goal.start-cursor-requires
start-cursor-requires c = (c.requires.0, c.requires.1, c.requires.2, c.requires.3)

pub loop-i-init : goal.loop-i-init
loop-i-init c = c.start-cursor.ensures

pub onward-cursor-requires : goal.onward-cursor-requires
onward-cursor-requires c = (c.requires.0, c.requires.2, c.requires.3, c.loop-i.invariant, omega (arith, c.requires.4))

pub loop-i-preserved : goal.loop-i-preserved
loop-i-preserved c = c.onward-cursor.ensures

pub returns : goal.returns
returns c = let e : c.loop-i.i ≡ c.args.x = omega arith in subst (λ (n : ℕ). At c.args.file.now c.args.bit n c.loop-i.cursor) e c.loop-i.invariant
