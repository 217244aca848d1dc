-- `rikzord::rikzord_check_cycles` meets its contract: both numbers are those of the answer. Assumes nothing.
use mathlib.Core.Path.{ap, ◌∙◌}
use Rattle.cycles.specs.Check.{lines_refusal, lines_byte}
use Rattle.cycles.proofs.Check.{told-number, told-byte}
use Rattle.rikzord.proofs.rikzord_check_cycles.Goals as goal

pub returns : goal.returns
returns c = let lines = c.check_cycles-answer.ensures in
    (c.refusal_of.ensures ∙ told-number c.check_cycles-answer.result ∙ ap lines_refusal lines, c.lines_byte.ensures ∙ told-byte c.args.lines.now c.check_cycles-answer.result ∙ ap (lines_byte c.args.lines.now) lines)
