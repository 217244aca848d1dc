-- `dispatch::typed_inside` meets its contract. Each arm is its command at its type, the last the one that is left (`last_arm`). Assumes nothing.
use Rattle.std.proofs.Common.{◌≡◌, ℕ, ◌<◌, refl, sym, ◌∙◌, ap, subst, arith}
use Rattle.verdict.specs.Verdict.{pick}
use Rattle.values.specs.Types.{takes}
use Rattle.commands.specs.Attempts.{attempted, Inside}
use Rattle.commands.proofs.Attempts.{given-type}
use Rattle.dispatch.proofs.Pairs.{NoneOf, has_arm, last_arm}
use Rattle.dispatch.proofs.typed_inside.Goals as goal

pub command_and_type-number-requires : goal.command_and_type-number-requires
command_and_type-number-requires c = let l : c.args.o.kind < 12 = given-type c.requires.1 in omega arith

pub typed-requires-in_default : goal.typed-requires-in_default
unfolding takes pick NoneOf has_arm
typed-requires-in_default c =
    let n = c.command_and_type-number in
    let last : n.result ≡ 603 = search last_arm in
    let e : c.args.op ≡ 37 = omega (arith, n.ensures.0) in
    (omega (arith, n.ensures.1), refl, subst (λ (code : ℕ). Inside code c.args.o c.args.d.now) e c.requires.2)

pub returns-in_default : goal.returns-in_default
unfolding takes pick NoneOf has_arm
returns-in_default c =
    let n = c.command_and_type-number in
    let last : n.result ≡ 603 = search last_arm in
    let e : c.args.op ≡ 37 = omega (arith, n.ensures.0) in
    c.typed-in_default.ensures ∙ ap (λ (code : ℕ). attempted code c.args.o c.args.d.now) (sym e)
