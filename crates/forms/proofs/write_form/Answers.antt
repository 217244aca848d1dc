-- The mark, and after it the bytes of the file. Assumes nothing.
use mathlib.Core.Path.{ap, ◌∙◌}
use mathlib.Core.List.{List}
use Prim.Native.Nat.{ℕ, ◌-◌}
use native.Mathlib.Omega.{arith}
use Rattle.memory.specs.Memory.{splice, part}
use Rattle.forms.proofs.Laws.{whole-mark}
use Rattle.forms.proofs.write_form.Goals as goal

pub returns : goal.returns
returns c = c.copy-2.ensures
    ∙ ap (λ (l : List ℕ). splice l 4 (part c.args.f.now 4 (c.args.end - 4)))
    (c.copy.ensures ∙ ap (splice c.args.out.now 0) (whole-mark c.args.mark.now (omega arith)))
