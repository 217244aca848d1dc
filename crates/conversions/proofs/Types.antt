-- A conversion by its destination's type: each arm of a `match` is a row of the table, and the last arm is none of them. Then what a result
-- stores. Assumes nothing.
use Rattle.std.proofs.Common.{◌≡◌, ℕ, zero, suc, Bool, true, false, sym, refl, ap, ◌∙◌}
use Rattle.values.specs.declared.Value.{Value}
use Rattle.std.specs.Prelude.{Option, None}
use Rattle.conversions.specs.Conversions.{to_type, Result, stores, not-held}

pub at-type : (k : ℕ) {t : ℕ} (v : Value) {r : Option Value} → t ≡ k → r ≡ to_type k v → r ≡ to_type t v
at-type k v e h = h ∙ ap (λ (n : ℕ). to_type n v) (sym e)

pub no-type : (t : ℕ) (v : Value) → (t ≡ 1 → ⊥) → (t ≡ 2 → ⊥) → (t ≡ 3 → ⊥) → (t ≡ 4 → ⊥) → (t ≡ 5 → ⊥) → (t ≡ 6 → ⊥) → (t ≡ 7 → ⊥) → (t ≡ 8 → ⊥) → (t ≡ 9 → ⊥)
    → (t ≡ 10 → ⊥) → None ≡ to_type t v
unfolding to_type
no-type zero v a b c d e f g h i j = refl
no-type (suc zero) v a b c d e f g h i j = absurd (a refl)
no-type (suc (suc zero)) v a b c d e f g h i j = absurd (b refl)
no-type (suc (suc (suc zero))) v a b c d e f g h i j = absurd (c refl)
no-type (suc (suc (suc (suc zero)))) v a b c d e f g h i j = absurd (d refl)
no-type (suc (suc (suc (suc (suc zero))))) v a b c d e f g h i j = absurd (e refl)
no-type (suc (suc (suc (suc (suc (suc zero)))))) v a b c d e f g h i j = absurd (f refl)
no-type (suc (suc (suc (suc (suc (suc (suc zero))))))) v a b c d e f g h i j = absurd (g refl)
no-type (suc (suc (suc (suc (suc (suc (suc (suc zero)))))))) v a b c d e f g h i j = absurd (h refl)
no-type (suc (suc (suc (suc (suc (suc (suc (suc (suc zero))))))))) v a b c d e f g h i j = absurd (i refl)
no-type (suc (suc (suc (suc (suc (suc (suc (suc (suc (suc zero)))))))))) v a b c d e f g h i j = absurd (j refl)
no-type (suc (suc (suc (suc (suc (suc (suc (suc (suc (suc (suc t))))))))))) v a b c d e f g h i j = refl

-- ---- what a result stores

abbrev pub pattern_in : Result → ℕ
pattern_in (stores p) = p
pattern_in not-held = 0

abbrev pub is_stored : Result → Bool
is_stored (stores p) = true
is_stored not-held = false
