-- An accepted file is laid as the functions ask. Assumes nothing.
use mathlib.Core.Path.{◌≡◌, sym, subst, ◌∙◌}
use mathlib.Core.Logic.{◌⊎◌, inl, inr}
use mathlib.Core.Bool.{true}
use mathlib.Core.List.{List, [], ◌∷◌}
use Prim.Native.Nat.{ℕ, ◌+◌, ◌≤◌, ◌<◌}
use native.Mathlib.Omega.{arith}
use lib.Dec.{T}
use Rattle.verdict.specs.Items.{OneOf}
use Rattle.protocol.specs.Variables.{Variable, reads_it, writes_it}
use Rattle.records.specs.File.{variable_at}
use Rattle.records.specs.Records.{used_by}
use Rattle.verdict.proofs.Truth.{either_left, either-right}
use Rattle.taskset.specs.Judge.{judge}
use Rattle.taskset.proofs.Exact.{keeps-rules, records-inside}
use Rattle.exchange.specs.Exchange.{has_bit}
use Rattle.exchange.specs.Laid.{Laid}
use Rattle.exchange.proofs.Cursors.{reads-named, writes-named}

width_few : (n : ℕ) → OneOf (1 ∷ 2 ∷ 4 ∷ 8 ∷ []) n → (1 ≤ n) × (n ≤ 8)
width_few n (inl e) = omega arith
width_few n (inr (inl e)) = omega arith
width_few n (inr (inr (inl e))) = omega arith
width_few n (inr (inr (inr (inl e)))) = omega arith
width_few n (inr (inr (inr (inr x4)))) = elim x4 [ ]

-- bit k or bit 4 + k names core k
names : (k : ℕ) (v : Variable) → k < 4 → (has_bit k v ≡ true) ⊎ (has_bit (4 + k) v ≡ true) → T (used_by k v)
names k v h (inl e) = either-right (reads_it k v) (writes_it k v) (subst T (sym (writes-named k h v ∙ e)) tt)
names k v h (inr e) = either_left (reads_it k v) (writes_it k v) (subst T (sym (reads-named k h v ∙ e)) tt)

pub laid : (f : List ℕ) → judge f ≡ 0 → Laid f
laid f z =
    let w = keeps-rules f z in
    record {
      few-cores = w.most-cores;
      few = w.most-variables;
      there = records-inside f w.ends;
      width = λ i h. width_few (variable_at f i).width (w.variable-rules i h).width;
      in-shared = λ i h. (w.variable-rules i h).in-shared;
      in-data = λ i k h l e. (w.variable-rules i h).in-data k (names k (variable_at f i) (omega (arith, w.most-cores)) e);
    }
