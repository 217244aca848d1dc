-- What loading has found, and the bytes of the two exchanges.
use mathlib.Core.Path.{◌≡◌, ap}
use mathlib.Core.List.{List}
use Prim.Native.Nat.{ℕ, ◌+◌, ◌*◌, ◌<◌}
use native.Mathlib.Omega.{arith}
use Rattle.records.specs.File.{variables, record_place}
use Rattle.taskset.specs.declared.Layout.{Layout}
use Rattle.taskset.specs.Layout.{layout_of}
use Rattle.exchange.specs.Laid.{Laid}
use Rattle.states.specs.Set.{AcceptedSet}
use Rattle.states.proofs.Tasks.{count_at_lem, task-is}
use Rattle.states.proofs.core_task.Goals as goal

-- the variables' records, as the layout has them
asked : {f t : List ℕ} {l : Layout} {bit : ℕ} → AcceptedSet f t → l ≡ layout_of f → bit < 8
    → Laid f × (l.first ≡ record_place f 0) × (l.first + 12 * l.variables ≡ record_place f (variables f)) × (bit < 8)
asked {f} ok e h =
    let a = ap (λ (m : Layout). m.first) e in
    let b = ap (λ (m : Layout). m.variables) e in
    (ok.laid, a, rw (a, b) (omega arith), h)

pub overflow_mul-end : goal.overflow_mul-end
overflow_mul-end c = record { fits = omega (arith, ap (λ (l : Layout). l.variables) c.requires.1, c.requires.0.laid.few) }

pub overflow_add-end : goal.overflow_add-end
overflow_add-end c = record { fits = omega (arith, ap (λ (l : Layout). l.variables) c.requires.1, ap (λ (l : Layout). l.first) c.requires.1, c.requires.0.laid.few, c.requires.0.few) }

pub bytes-requires : goal.bytes-requires
bytes-requires c = asked c.requires.0 c.requires.1 (omega (arith, c.requires.3, c.requires.0.few))

pub bytes-requires-2 : goal.bytes-requires-2
bytes-requires-2 c = asked c.requires.0 c.requires.1 (omega (arith, c.requires.3, c.requires.0.few))

pub overflow_cast-result : goal.overflow_cast-result
overflow_cast-result c = record { fits = omega (arith, count_at_lem _ _ c.requires.0 _ c.requires.3 _ c.requires.2, c.requires.0.counts c.args.k) }

pub returns : goal.returns
returns c = task-is _ _ c.requires.0 _ c.requires.3 _ _ _ _ c.requires.1 c.requires.2 c.bytes.ensures.0
    c.bytes-2.ensures.0
