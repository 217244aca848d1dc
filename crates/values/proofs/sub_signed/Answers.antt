-- `values::sub_signed` meets its contract. The difference of the patterns is the pattern of the difference (`modular`). Assumes nothing.
use Rattle.std.proofs.Common.{ℕ, ◌*◌, ◌^◌, ◌<◌, ◌≤◌, ◌-ℤ◌, sym, ◌∙◌, subst}
use Rattle.values.proofs.Widths as Widths
use Rattle.values.proofs.Signs as Signs
use Rattle.values.proofs.sub_signed.Goals as goal

pub sub_unsigned-requires : goal.sub_unsigned-requires
sub_unsigned-requires c = c.requires

pub signed_of-requires : goal.signed_of-requires
signed_of-requires c = (Widths.width-pos c.requires, Widths.width-le c.requires, subst (λ (k : ℕ). k < 2 ^ (8 * c.args.w)) (sym c.sub_unsigned.ensures) (Widths.pattern_lt (8 * c.args.w) _))

pub returns : goal.returns
returns c = let w = c.args.w in
    let h : w ≤ 8 = Widths.width-le c.requires in
    Signs.read64 c.signed_of.result c.signed_of.type_inv ∙ c.signed_of.ensures
    ∙ Widths.wrap-of (8 * w) (c.args.x -ℤ c.args.y) c.sub_unsigned.result (sym
    (Widths.modular (8 * w) (c.args.x -ℤ c.args.y) _ (Widths.cong-subtract (8 * w) c.args.x c.args.y c.bits_of.result c.bits_of-2.result
    (Signs.bits-cong w h c.args.x c.ranges.x.sfits c.bits_of.ensures)
    (Signs.bits-cong w h c.args.y c.ranges.y.sfits c.bits_of-2.ensures))
    (Widths.pattern-cut (8 * w) _ c.sub_unsigned.ensures)))
