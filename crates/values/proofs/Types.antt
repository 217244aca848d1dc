-- What the tables of the types say. In order: a property of each type; widths; the last type of a `match`. Assumes nothing.
use Rattle.std.proofs.Common.{◌≡◌, ℕ, zero, suc, ◌<◌, ◌≤◌, refl, inl, inr, arith}
use Rattle.values.specs.Types.{width_of}
use Rattle.values.specs.Width.{Width}

-- ---- a property of each type

pub each-type : (P : ℕ → Type 0) → P 0 → P 1 → P 2 → P 3 → P 4 → P 5 → P 6 → P 7 → P 8 → P 9 → P 10 → P 11 → (t : ℕ) → t < 12 → P t
each-type P a b c d e f g h i j k l zero q = a
each-type P a b c d e f g h i j k l (suc zero) q = b
each-type P a b c d e f g h i j k l (suc (suc zero)) q = c
each-type P a b c d e f g h i j k l (suc (suc (suc zero))) q = d
each-type P a b c d e f g h i j k l (suc (suc (suc (suc zero)))) q = e
each-type P a b c d e f g h i j k l (suc (suc (suc (suc (suc zero))))) q = f
each-type P a b c d e f g h i j k l (suc (suc (suc (suc (suc (suc zero)))))) q = g
each-type P a b c d e f g h i j k l (suc (suc (suc (suc (suc (suc (suc zero))))))) q = h
each-type P a b c d e f g h i j k l (suc (suc (suc (suc (suc (suc (suc (suc zero)))))))) q = i
each-type P a b c d e f g h i j k l (suc (suc (suc (suc (suc (suc (suc (suc (suc zero))))))))) q = j
each-type P a b c d e f g h i j k l (suc (suc (suc (suc (suc (suc (suc (suc (suc (suc zero)))))))))) q = k
each-type P a b c d e f g h i j k l (suc (suc (suc (suc (suc (suc (suc (suc (suc (suc (suc zero))))))))))) q = l
each-type P a b c d e f g h i j k l (suc (suc (suc (suc (suc (suc (suc (suc (suc (suc (suc (suc t)))))))))))) q = absurd (let y : ⊥ = omega arith in y)

-- ---- widths

pub width-ok : (t : ℕ) → t < 12 → Width (width_of t)
unfolding width_of
width-ok =
    each-type (λ (t : ℕ). Width (width_of t)) (inl refl) (inl refl) (inl refl) (inr (inl refl)) (inr (inl refl)) (inr (inr (inl refl))) (inr (inr (inl refl)))
    (inr (inr (inr refl))) (inr (inr (inr refl))) (inr (inr (inl refl))) (inr (inr (inr refl))) (inr (inr (inl refl)))

-- ---- the last type of a `match`: none of those before it

pub past : {n k : ℕ} → k ≤ n → (n ≡ k → ⊥) → suc k ≤ n
past h d = omega arith

pub last-type : (t : ℕ) → t < 12 → (t ≡ 0 → ⊥) → (t ≡ 1 → ⊥) → (t ≡ 2 → ⊥) → (t ≡ 3 → ⊥) → (t ≡ 4 → ⊥) → (t ≡ 5 → ⊥) → (t ≡ 6 → ⊥)
    → (t ≡ 7 → ⊥) → (t ≡ 8 → ⊥) → (t ≡ 9 → ⊥) → (t ≡ 10 → ⊥) → t ≡ 11
last-type t l a b c d e f g h i j k =
    let m : 11 ≤ t = past (past (past (past (past (past (past (past (past (past (past (omega arith) a) b) c) d) e) f) g) h) i) j) k in
    omega arith
