-- `commands::command::pattern` meets its contract: each arm is the pattern at its type, the last the type that is left (`last_taken`). Assumes nothing.
use Rattle.std.proofs.Common.{rules, ℕ, ◌≡◌, true, false, ◌+◌, ◌≤◌, length, subst, sym}
use Rattle.memory.specs.Memory.{read_le}
use Rattle.values.specs.Types.{width_of, takes}
use Rattle.values.specs.Commands.{second_width, command, zero_divisor}
use Rattle.commands.proofs.Results.{last_taken}
use Rattle.commands.proofs.command.pattern.Goals as goal

pub pattern_in-requires-in_default : goal.pattern_in-requires-in_default
pattern_in-requires-in_default g c =
    let code = g.C.Command.CODE in
    let s = c.args.d.now in
    let e : c.args.t ≡ 11 = search (rules, last_taken) in
    subst (λ (t : ℕ). (takes code t ≡ true) × (c.args.a + width_of t ≤ length s) × (c.args.b + second_width code t ≤ length s) × (zero_divisor code t (read_le s c.args.b (second_width code t)) ≡ false)) e c.requires

pub returns-in_default : goal.returns-in_default
returns-in_default g c =
    let code = g.C.Command.CODE in
    let s = c.args.d.now in
    let e : c.args.t ≡ 11 = search (rules, last_taken) in
    subst (λ (t : ℕ). c.pattern_in-in_default.result ≡ command code t (read_le s c.args.a (width_of t)) (read_le s c.args.b (second_width code t))) (sym e) c.pattern_in-in_default.ensures
