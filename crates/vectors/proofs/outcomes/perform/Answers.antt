-- `vectors::outcomes::perform` meets its contract. What is given of the code byte is given of the arm's command. Assumes nothing.
use Rattle.std.proofs.Common.{◌≡◌, ℕ, subst}
use Rattle.commands.specs.Attempts.{OperandsGiven}
use Rattle.commands.specs.declared.Operands.{Operands}
use Rattle.vectors.proofs.outcomes.perform.Goals as goal

given-at : {code : ℕ} {o : Operands} (k : ℕ) → code ≡ k → OperandsGiven code o → OperandsGiven k o
given-at {code} {o} k e g = subst (λ (n : ℕ). OperandsGiven n o) e g

pub not_at-requires : goal.not_at-requires
not_at-requires c = search given-at
