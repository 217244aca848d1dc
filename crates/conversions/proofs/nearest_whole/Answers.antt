-- `conversions::nearest_whole` meets its contract: a pattern with a shift above 1085 is 2 ^ 64 at least; any other is its digits, rounded. Assumes nothing.
use denote.Floats.{passes}
use lib.Ieee.Nearest.{closest}
use lib.Ieee.Bits.{of_bits-to_bits}
use lib.Ieee.{Float, binary64}
use lib.Ieee as Ieee
use Rattle.conversions.specs.Conversions.{nearest_whole, held_in, with_sign}
use Rattle.conversions.specs.Digits.{digits_in, shift_in}
use Rattle.std.proofs.Common.{ℕ, ◌-◌, ◌*◌, ◌^◌, ◌<◌, ◌≤◌, leb, sym, ap, ◌∙◌, subst, arith}
use Rattle.values.proofs.Floats.{differs, not-differs}
use Rattle.conversions.proofs.Whole as Whole
use Rattle.conversions.proofs.nearest_whole.Goals as goal

pub returns-then-x : goal.returns-then-x
unfolding nearest_whole
returns-then-x c = let a = c.args in
    sym (ap (λ (x : Float). nearest_whole a.signed a.w x) (differs _ c.if-x.true))

pub float_to_bits-p : goal.float_to_bits-p
float_to_bits-p c = not-differs _ c.if-x.false

pub returns-then-j-gt1085 : goal.returns-then-j-gt1085
returns-then-j-gt1085 c = let x = c.args.x in
    Whole.out_of_range c.args.signed c.args.w x (of_bits-to_bits binary64 x (passes _ c.well_formed.1.1.0.1)) c.requires.1 (subst (λ (j : ℕ). 1085 < j) c.shift_of-j.ensures c.if-j-gt1085.true)

pub nearest_scaled-n-requires : goal.nearest_scaled-n-requires
nearest_scaled-n-requires c = let p = Ieee.to_bits binary64 c.args.x in
    let j = c.shift_of-j.result in
    let h : j ≤ 1085 = omega arith in
    let k : j - 1074 < 64 = omega arith in
    (k, subst (λ (d : ℕ). d * 2 ^ (j - 1074) < 2 ^ 64) (sym c.digits_of.ensures) (Whole.digits-room p j h))

pub returns : goal.returns
returns c = let x = c.args.x in
    let p = Ieee.to_bits binary64 x in
    let ej = c.shift_of-j.ensures in
    let h : shift_in binary64 p ≤ 1085 = subst (λ (j : ℕ). j ≤ 1085) ej c.if-j-gt1085.false in
    c.held_at.ensures
    ∙ ap (λ (n : ℕ). held_in c.args.signed c.args.w (with_sign (leb (2 ^ 63) p) n))
    (c.nearest_scaled-n.ensures
    ∙ ap (λ (d : ℕ). closest (d * 2 ^ c.shift_of-j.result) (2 ^ 1074)) c.digits_of.ensures
    ∙ ap (λ (j : ℕ). closest (digits_in binary64 p * 2 ^ j) (2 ^ 1074)) ej)
    ∙ Whole.nearest-of c.args.signed c.args.w x (leb (2 ^ 63) p) (digits_in binary64 p * 2 ^ shift_in binary64 p) 1074
    (Whole.by-pattern x (of_bits-to_bits binary64 x (passes _ c.well_formed.1.1.0.1)) h)
