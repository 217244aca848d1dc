-- `conversions::settle` meets its contract: what is held is stored at the width of the type. Assumes nothing.
use Rattle.std.proofs.Common.{ℕ, ◌+◌, ◌≤◌, length, sym, ap, ◌∙◌, subst}
use Rattle.memory.specs.Memory.{splice, bytes_le}
use Rattle.values.specs.Values.{pattern_of, stored}
use Rattle.values.specs.Width.{Width}
use Rattle.values.proofs.Types.{width-ok}
use Rattle.values.proofs.Reading.{width_small}
use Rattle.values.specs.declared.Value.{Value}
use Rattle.std.specs.Prelude.{Option, Ok}
use Rattle.conversions.specs.Conversions.{result_as}
use Rattle.conversions.specs.Data.{ended, settled}
use Rattle.conversions.proofs.settle.Goals as goal

pub pattern_of-requires : goal.pattern_of-requires
pattern_of-requires c = width_small c.args.t c.requires.0 c.width_of-w.ensures

pub store_pattern-requires : goal.store_pattern-requires
store_pattern-requires c = let e = c.width_of-w.ensures in
    (subst Width (sym e) (width-ok c.args.t c.requires.0), subst (λ (n : ℕ). c.args.to + n ≤ length c.args.d.now) (sym e) c.requires.1)

pub returns-in-Some : goal.returns-in-Some
unfolding stored
returns-in-Some c = let a = c.args in
    let v = c.in-Some.v in
    let w = c.width_of-w.result in
    ap (ended (Ok tt)) c.store_pattern.ensures
    ∙ ap (λ (x : ℕ). ended (Ok tt) (splice a.d.now a.to (bytes_le w x))) c.pattern_of.ensures
    ∙ ap (λ (n : ℕ). ended (Ok tt) (splice a.d.now a.to (bytes_le n (pattern_of n v)))) c.width_of-w.ensures
    ∙ sym (ap (λ (x : Option Value). settled a.t a.d.now a.to (result_as a.t x)) c.in-Some.is)

pub returns-in-None : goal.returns-in-None
returns-in-None c = let a = c.args in
    sym (ap (λ (x : Option Value). settled a.t a.d.now a.to (result_as a.t x)) c.in-None.is)
