-- A value from memory, by its type. Each law is over the type k that a `match` found and its width w. Assumes nothing.
use Rattle.std.proofs.Common.{◌≡◌, ℕ, ◌+◌, ◌<◌, ◌≤◌, List, sym, ap, ◌∙◌, subst}
use Rattle.memory.specs.Memory.{read_le}
use Rattle.values.specs.Types.{width_of}
use Rattle.values.specs.Values.{typed, read_value}
use Rattle.values.proofs.Widths.{width-le}
use Rattle.values.proofs.Types.{width-ok}

module _ {t : ℕ} (k : ℕ) {w : ℕ} (e : t ≡ k) (f : width_of k ≡ w) where
  pub width-at : w ≡ width_of t
  width-at = sym (ap width_of e ∙ f)

  pub load-in : (at n : ℕ) → at + width_of t ≤ n → at + w ≤ n
  load-in at n h = subst (λ (m : ℕ). at + m ≤ n) (sym width-at) h

  pub read_as : (s : List ℕ) (at : ℕ) {p : ℕ} → p ≡ read_le s at w → typed k p ≡ read_value s t at
  unfolding read_value
  read_as s at g = ap (typed k) (g ∙ ap (read_le s at) width-at) ∙ ap (λ (n : ℕ). typed n (read_le s at (width_of t))) (sym e)

pub width_small : (t : ℕ) {r : ℕ} → t < 12 → r ≡ width_of t → r ≤ 8
width_small t h e = subst (λ (n : ℕ). n ≤ 8) (sym e) (width-le (width-ok t h))
