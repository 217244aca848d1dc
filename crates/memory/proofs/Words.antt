-- Copies of some bytes at a time, from another list or within one whose stretches share no byte.
-- In order: a stretch as two; one turn of a loop; what the distance of two places says. Assumes nothing.
use mathlib.Core.Path.{◌≡◌, refl, sym, ap, ◌∙◌}
use mathlib.Core.Logic.{inl, inr}
use mathlib.Core.List.{List, [], ◌∷◌, ◌++◌}
use Prim.Native.Nat.{ℕ, zero, suc, ◌+◌, ◌-◌, ◌≤◌}
use native.Mathlib.Omega.{arith}
use lib.ListN.{length, take, drop}
use Rattle.memory.specs.Memory.{splice, part, Disjoint}
use Rattle.memory.proofs.Laws.{splice-append, part-splice-below, part-splice-above, length_part}

-- ---- a stretch as two, one behind the other

nothing-taken : (b : ℕ) → [] ≡ take {A = ℕ} b []
nothing-taken zero = refl
nothing-taken (suc b) = refl

nothing_left : (a : ℕ) → drop {A = ℕ} a [] ≡ []
nothing_left zero = refl
nothing_left (suc a) = refl

take-add : (a b : ℕ) (l : List ℕ) → take (a + b) l ≡ take a l ++ take b (drop a l)
take-add zero b l = ap (λ (n : ℕ). take n l) (let e : 0 + b ≡ b = omega arith in e)
take-add (suc a) b [] = sym (nothing-taken (suc a + b)) ∙ nothing-taken b
take-add (suc a) b (x ∷ l) = ap (λ (n : ℕ). take n (x ∷ l)) (let e : suc a + b ≡ suc (a + b) = omega arith in e) ∙ ap (λ (m : List ℕ). x ∷ m) (take-add a b l)

drop-add : (a p : ℕ) (l : List ℕ) → drop a (drop p l) ≡ drop (p + a) l
drop-add a zero l = ap (λ (n : ℕ). drop n l) (let e : a ≡ 0 + a = omega arith in e)
drop-add a (suc p) [] = nothing_left a ∙ sym (nothing_left (suc p + a))
drop-add a (suc p) (x ∷ l) = drop-add a p l ∙ ap (λ (n : ℕ). drop n (x ∷ l)) (let e : suc (p + a) ≡ suc p + a = omega arith in e)

part-add : (s : List ℕ) (p a b : ℕ) → part s p (a + b) ≡ part s p a ++ part s (p + a) b
unfolding part
part-add s p a b = take-add a b (drop p s) ∙ ap (λ (m : List ℕ). take a (drop p s) ++ take b m) (drop-add a p s)

-- ---- one turn of w bytes, at index i of n: what is left to do after it makes the same of the list as what was left to do before it

-- from another list
pub copied-turn : (d e s : List ℕ) (to from n i w : ℕ) → i + w ≤ n → from + n ≤ length s → e ≡ splice d (to + i) (part s (from + i) w)
    → splice e (to + (i + w)) (part s (from + (i + w)) (n - (i + w))) ≡ splice d (to + i) (part s (from + i) (n - i))
copied-turn d e s to from n i w h l q =
    let ys : List ℕ = part s (from + i) w in
    let zs : List ℕ = part s (from + (i + w)) (n - (i + w)) in
    let long : length ys ≡ w = length_part s (from + i) w (omega arith) in
    let seam : to + (i + w) ≡ to + i + length ys = rw long (omega arith) in
    let place : from + (i + w) ≡ from + i + w = omega arith in
    let count : w + (n - (i + w)) ≡ n - i = omega arith in
    ap (λ (x : List ℕ). splice x (to + (i + w)) zs) q
    ∙ ap (λ (p : ℕ). splice (splice d (to + i) ys) p zs) seam
    ∙ sym (splice-append d (to + i) ys zs)
    ∙ ap (λ (p : ℕ). splice d (to + i) (ys ++ part s p (n - (i + w)))) place
    ∙ ap (splice d (to + i)) (sym (part-add s (from + i) w (n - (i + w))))
    ∙ ap (λ (m : ℕ). splice d (to + i) (part s (from + i) m)) count

-- what is still to be read lies elsewhere
elsewhere : (d ys : List ℕ) (to from n i w : ℕ) → Disjoint to from n → i + w ≤ n → length ys ≡ w
    → part (splice d (to + i) ys) (from + (i + w)) (n - (i + w)) ≡ part d (from + (i + w)) (n - (i + w))
elsewhere d ys to from n i w (inl a) h e = part-splice-above d (to + i) ys _ _ (rw e (omega arith))
elsewhere d ys to from n i w (inr a) h e = part-splice-below d (to + i) ys _ _ (omega arith)

-- within one list
pub moved-turn : (d e : List ℕ) (to from n i w : ℕ) → i + w ≤ n → from + n ≤ length d → Disjoint to from n → e ≡ splice d (to + i) (part d (from + i) w)
    → splice e (to + (i + w)) (part e (from + (i + w)) (n - (i + w))) ≡ splice d (to + i) (part d (from + i) (n - i))
moved-turn d e to from n i w h l a q =
    ap (λ (x : List ℕ). splice e (to + (i + w)) (part x (from + (i + w)) (n - (i + w)))) q
    ∙ ap (splice e (to + (i + w))) (elsewhere d (part d (from + i) w) to from n i w a h (length_part d (from + i) w (omega arith)))
    ∙ copied-turn d e d to from n i w h l q

-- the same where the next index is named otherwise
pub moved-on : (d e : List ℕ) (to from n i w j : ℕ) → j ≡ i + w → j ≤ n → from + n ≤ length d → Disjoint to from n → e ≡ splice d (to + i) (part d (from + i) w)
    → splice e (to + j) (part e (from + j) (n - j)) ≡ splice d (to + i) (part d (from + i) (n - i))
moved-on d e to from n i w j p h l a q = rw p (moved-turn d e to from n i w (omega arith) l a q)

-- ---- how far apart

-- stretches whose places lie n apart share none of n bytes
pub disjoint-by : (p q n : ℕ) → n ≤ (p - q) + (q - p) → Disjoint p q n
disjoint-by zero q n h = inl (omega arith)
disjoint-by (suc p) zero n h = inr (omega arith)
disjoint-by (suc p) (suc q) n h = further (disjoint-by p q n (omega arith))
  where
    further : Disjoint p q n → Disjoint (suc p) (suc q) n
    further (inl a) = inl (omega arith)
    further (inr a) = inr (omega arith)
