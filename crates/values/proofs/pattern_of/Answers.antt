-- `values::pattern_of` meets its contract. Each arm is the pattern of its kind. Assumes nothing.
use Rattle.std.proofs.Common.{◌*◌, sym, ap, ◌∙◌}
use Rattle.values.proofs.Widths as Widths
use Rattle.values.proofs.Signs as Signs
use Rattle.values.specs.Values.{pattern_of}
use Rattle.values.proofs.pattern_of.Goals as goal

pub returns-in-Bool : goal.returns-in-Bool
unfolding pattern_of
returns-in-Bool c = sym (ap (pattern_of c.args.w) c.in-Bool.is)

pub returns-in-Signed : goal.returns-in-Signed
unfolding pattern_of
returns-in-Signed c = c.low_bytes.ensures
    ∙ sym (Widths.cong-pattern (8 * c.args.w) c.in-Signed.x c.bits_of.result
    (Signs.bits-cong c.args.w c.requires c.in-Signed.x c.in-Signed.known_told-in-Signed-1-own.given.0.1 c.bits_of.ensures)) ∙ sym (ap (pattern_of c.args.w) c.in-Signed.is)

pub returns-in-Unsigned : goal.returns-in-Unsigned
unfolding pattern_of
returns-in-Unsigned c = c.low_bytes-in-Unsigned.ensures ∙ sym (ap (pattern_of c.args.w) c.in-Unsigned.is)

pub returns-in-Real : goal.returns-in-Real
unfolding pattern_of
returns-in-Real c = c.real_bits.ensures ∙ sym (ap (pattern_of c.args.w) c.in-Real.is)

pub returns-in-Lreal : goal.returns-in-Lreal
unfolding pattern_of
returns-in-Lreal c = c.lreal_bits.ensures ∙ sym (ap (pattern_of c.args.w) c.in-Lreal.is)
