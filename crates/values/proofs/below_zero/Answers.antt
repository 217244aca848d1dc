-- `values::below_zero` meets its contract. -1 - k is in range, and is the number one below -k. Assumes nothing.
use mir.Facts.{to_z_pos}
use Rattle.values.proofs.Signs.{minus_one, read64}
use Rattle.std.proofs.Common.{ℤ, negsuc, ◌-ℤ◌, sym, ap, ◌∙◌, subst, w64, SFits, to_z, of_z}
use Rattle.values.proofs.below_zero.Goals as goal

pub overflow_sub-result : goal.overflow_sub-result
overflow_sub-result c = subst (λ (z : ℤ). SFits w64 (negsuc 0 -ℤ z)) (sym (to_z_pos w64 c.requires)) (subst (λ (z : ℤ). SFits w64 z) (sym (minus_one c.args.k)) (record { sfits = c.requires }))

pub returns : goal.returns
returns c = ap (λ (z : ℤ). to_z w64 (of_z w64 (negsuc 0 -ℤ z))) (to_z_pos w64 c.requires) ∙ ap (λ (z : ℤ). to_z w64 (of_z w64 z)) (minus_one c.args.k) ∙ read64 (negsuc c.args.k) c.requires
