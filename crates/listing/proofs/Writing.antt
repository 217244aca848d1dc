-- Laws of writing a text piece by piece: what is left to write makes of the bytes now what the whole makes of them at the start.
-- In order: the pieces of a text; the first elements of a list, one after another. Assumes nothing.
use mathlib.Core.Path.{◌≡◌, refl, sym, ap, ◌∙◌}
use mathlib.Core.List.{List, [], ◌∷◌, ◌++◌}
use Prim.Native.Nat.{ℕ, ◌+◌, ◌≤◌, ◌<◌, min}
use native.Mathlib.Nat.{add-zero}
use native.Mathlib.Omega.{arith}
use native.Mathlib.Numerals.{add-one}
use lib.ListN.{length, take, drop, get_or, set, length-append, length-take, drop_of_length-le}
use lib.Seq.{drop-cons, get_or-take, set_out}
use Rattle.memory.specs.Memory.{splice}
use Rattle.memory.proofs.Laws.{splice-append}

-- ---- the pieces of a text

pub record Writing (d : List ℕ) (at : ℕ) (text e : List ℕ) (p : ℕ) (rest : List ℕ) : Type 0 where
  pub bytes : splice e p rest ≡ splice d at text
  pub place : p + length rest ≡ at + length text

pub writing_start : (d : List ℕ) (at : ℕ) (text : List ℕ) → Writing d at text d at text
writing_start d at text = record { bytes = refl; place = refl }

pub writing_more : {d : List ℕ} {at : ℕ} {text e : List ℕ} {p : ℕ} {rest : List ℕ} (xs ys : List ℕ) {f : List ℕ} {q : ℕ}
    → Writing d at text e p rest → rest ≡ xs ++ ys → f ≡ splice e p xs → q ≡ p + length xs → Writing d at text f q ys
writing_more {d} {at} {text} {e} {p} {rest} xs ys {f} {q} w r b a =
    record {
      bytes = rw (b, a) (sym (splice-append e p xs ys) ∙ ap (splice e p) (sym r) ∙ w.bytes);
      place = omega (arith, length-append xs ys, ap length r, w.place);
    }

pub writing-last : {d : List ℕ} {at : ℕ} {text e : List ℕ} {p : ℕ} {xs f : List ℕ} {q : ℕ}
    → Writing d at text e p xs → f ≡ splice e p xs → q ≡ p + length xs → (f ≡ splice d at text) × (q ≡ at + length text)
writing-last w b a = (b ∙ w.bytes, a ∙ w.place)

pub writing-end : {d : List ℕ} {at : ℕ} {text e : List ℕ} {p : ℕ} {rest : List ℕ} → Writing d at text e p rest → rest ≡ []
    → (e ≡ splice d at text) × (p ≡ at + length text)
unfolding splice
writing-end {e = e} {p = p} w r =
    (ap (splice e p) (sym r) ∙ w.bytes, sym (add-zero p) ∙ ap (λ (l : List ℕ). p + length l) (sym r) ∙ w.place)

-- one byte, which past the end isn't written
pub one_byte : (d : List ℕ) (at b : ℕ) → length d ≤ at → d ≡ splice d at (b ∷ [])
unfolding splice
one_byte d at b h = sym (set_out d at b h)

pub one-byte-set : (d : List ℕ) (at b : ℕ) → set d at b ≡ splice d at (b ∷ [])
unfolding splice
one-byte-set d at b = refl

-- ---- the first elements of a list, one after another

pub one_of : {A : Type 0} (l : List A) (i : ℕ) (z : A) → i < length l → drop i l ≡ get_or l i z ∷ drop (i + 1) l
one_of l i z h = rw (add-one, drop-cons l i z h)

pub next_of : {A : Type 0} (l : List A) (n i : ℕ) (z : A) → i < min n (length l) → drop i (take n l) ≡ get_or l i z ∷ drop (i + 1) (take n l)
next_of l n i z h =
    let m : i < n = omega arith in
    one_of (take n l) i z (simp length-take h) ∙ ap (λ x. x ∷ drop (i + 1) (take n l)) (get_or-take n l i z m)

pub none_of : {A : Type 0} (l : List A) (n i : ℕ) → min n (length l) ≤ i → drop i (take n l) ≡ []
none_of l n i h = drop_of_length-le (take n l) {i = i} (simp length-take h)
