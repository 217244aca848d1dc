-- `dispatch::typed_at` meets its contract. The addresses are tried before the command. Assumes nothing.
use Rattle.commands.proofs.Attempts.{was-beyond}
use Rattle.dispatch.proofs.typed_at.Goals as goal

pub returns-then-typed_beyond : goal.returns-then-typed_beyond
returns-then-typed_beyond c = search was-beyond
