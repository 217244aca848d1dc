-- `command_dispatch::typed_inside` meets its contract. Each arm is its command, the last the one that is left (`last_code`). Assumes nothing.
use Rattle.std.proofs.Common.{rules, ℕ, ◌≡◌, refl, sym, ◌∙◌, true, ap, subst}
use Rattle.values.specs.Types.{takes}
use Rattle.values.proofs.Commands.{last_code}
use Rattle.commands.specs.Attempts.{attempted, Inside}
use Rattle.command_dispatch.proofs.typed_inside.Goals as goal

pub typed-requires-in_default : goal.typed-requires-in_default
typed-requires-in_default c =
    let e : c.args.op ≡ 37 = search (rules, last_code) in
    subst (λ (code : ℕ). (c.args.o.kind ≡ c.args.o.kind) × (takes code c.args.o.kind ≡ true) × Inside code c.args.o c.args.d.now) e
    (refl, c.requires.1.taken, c.requires.2)

pub returns-in_default : goal.returns-in_default
returns-in_default c =
    let e : c.args.op ≡ 37 = search (rules, last_code) in
    c.typed-in_default.ensures ∙ ap (λ (code : ℕ). attempted code c.args.o c.args.d.now) (sym e)
