-- `core_runs::stretch_end` meets its contract: the stretch is told by its last step, not by its length. Assumes nothing.
use mathlib.Core.Path.{◌≡◌, subst, subst⁻¹}
use Prim.Native.Nat.{ℕ, ◌+◌, ◌-◌}
use native.Mathlib.Omega.{arith}
use Rattle.order.specs.Order.{Stretches}
use Rattle.core_runs.proofs.stretch_end.Goals as goal

pub execution_ahead-requires : goal.execution_ahead-requires
execution_ahead-requires c = let given = c.requires in (given.0, omega (arith, c.min.ensures, given.1), given.2)

pub overflow_add-result : goal.overflow_add-result
overflow_add-result c = let good = c.well_formed in record { fits = omega (arith, c.execution_ahead.ensures.within) }

pub returns : goal.returns
returns c = let ahead = c.execution_ahead.ensures in
    let most = c.min.ensures in
    let steps = c.args.from + c.execution_ahead.result - c.args.from in
    let same : steps ≡ c.execution_ahead.result = omega arith in (
      omega (arith, ahead.some c.requires.0 (omega (arith, most, c.requires.1))),
      subst (λ (n : ℕ). Stretches c.args.order.now c.args.from n c.args.k steps) most
          (subst⁻¹ (Stretches c.args.order.now c.args.from c.min.result c.args.k) same ahead),
    )
