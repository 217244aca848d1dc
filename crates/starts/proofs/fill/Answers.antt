-- Zeros, and in a file of the new form the start values over them. Assumes nothing.
use mathlib.Core.Path.{sym, ap, ◌∙◌}
use native.Mathlib.Omega.{arith}
use Rattle.protocol.specs.Fresh.{zeros}
use Rattle.taskset.specs.Task.{variables_of}
use Rattle.taskset.specs.Starts.{start_data, with_written, start_shared}
use Rattle.taskset.proofs.Exact.{keeps-rules, records-inside}
use Rattle.taskset.proofs.Starts.{old-shared}
use Rattle.starts.proofs.Laws.{old-buffer}
use Rattle.starts.proofs.fill.Goals as goal

pub is_new-requires : goal.is_new-requires
is_new-requires c = let f = c.args.f.now in
    omega (arith, records-inside f (keeps-rules f c.requires.0).ends)

pub write_data-requires : goal.write_data-requires
write_data-requires c = (c.requires.0, sym c.is_new.ensures ∙ c.if-is_new.true, c.zero.ensures ∙ ap zeros c.requires.2)

pub returns-then-is_new : goal.returns-then-is_new
unfolding start_shared
returns-then-is_new c = let f = c.args.f.now in (
  c.write_data.ensures,
  c.write_shared.ensures ∙ ap (with_written (start_data f) (variables_of f)) (c.zero-2.ensures ∙ ap zeros c.requires.3),
)

pub returns-else-is_new : goal.returns-else-is_new
returns-else-is_new c = let f = c.args.f.now in (
  c.zero.ensures ∙ ap zeros c.requires.2 ∙ sym (old-buffer f (sym c.is_new.ensures ∙ c.if-is_new.false)),
  c.zero-2.ensures ∙ ap zeros c.requires.3 ∙ sym (old-shared f (sym c.is_new.ensures ∙ c.if-is_new.false)),
)
