-- Laws of `splice` and `part`. A law has a bound only where it is false without it: a write past the end is dropped, so a
-- splice keeps the length, and disjoint splices commute, whatever the places are. Assumes nothing.
use mathlib.Core.Path.{◌≡◌, refl, sym, ap, ◌∙◌}
use mathlib.Core.List.{List, [], ◌∷◌, ◌++◌, append_assoc}
use Prim.Native.Nat.{ℕ, zero, suc, ◌+◌, ◌≤◌, ◌<◌}
use native.Mathlib.Nat.{add-zero, zero-add, add-suc, suc-add}
use native.Mathlib.Omega.{arith}
use lib.ListN.{length, take, drop, set, length-set, length-drop}
use lib.Seq.{take-add, sets, sets-eq, set_comm, take-set-le, drop-set-lt, drop_at, length-take-le, take-append_seam, drop-drop}
use Rattle.memory.specs.Memory.{splice, part}

-- ---- what a splice is

pub length-splice : (s : List ℕ) (p : ℕ) (ys : List ℕ) → length (splice s p ys) ≡ length s
unfolding splice
length-splice s p [] = refl
length-splice s p (y ∷ ys) = length-splice (set s p y) (suc p) ys ∙ length-set s p y

splice-sets : (s : List ℕ) (p : ℕ) (ys : List ℕ) → splice s p ys ≡ sets s p ys
unfolding splice
splice-sets s p [] = refl
splice-sets s p (y ∷ ys) = splice-sets (set s p y) (suc p) ys

-- the picture: what lies before, what was written, what lies after
pub splice-is : (s : List ℕ) (p : ℕ) (ys : List ℕ) → p + length ys ≤ length s → splice s p ys ≡ take p s ++ (ys ++ drop (p + length ys) s)
splice-is s p ys h = splice-sets s p ys ∙ sets-eq ys s p h ∙ append_assoc (take p s) ys (drop (p + length ys) s)

pub splice-append : (s : List ℕ) (p : ℕ) (xs ys : List ℕ) → splice s p (xs ++ ys) ≡ splice (splice s p xs) (p + length xs) ys
unfolding splice
splice-append s p [] ys = ap (λ (k : ℕ). splice s k ys) (sym (add-zero p))
splice-append s p (x ∷ xs) ys =
    splice-append (set s p x) (suc p) xs ys
    ∙ ap (λ (k : ℕ). splice (splice (set s p x) (suc p) xs) k ys) (suc-add p (length xs) ∙ sym (add-suc p (length xs)))

-- ---- a write elsewhere

pub set-splice-below : (s : List ℕ) (p : ℕ) (ys : List ℕ) (k a : ℕ) → k < p → set (splice s p ys) k a ≡ splice (set s k a) p ys
unfolding splice
set-splice-below s p [] k a h = refl
set-splice-below s p (y ∷ ys) k a h =
    set-splice-below (set s p y) (suc p) ys k a (omega arith)
    ∙ ap (λ (l : List ℕ). splice l (suc p) ys) (set_comm s p k y a (λ e. omega arith))

pub set-splice-above : (s : List ℕ) (p : ℕ) (ys : List ℕ) (k a : ℕ) → p + length ys ≤ k → set (splice s p ys) k a ≡ splice (set s k a) p ys
unfolding splice
set-splice-above s p [] k a h = refl
set-splice-above s p (y ∷ ys) k a h =
    set-splice-above (set s p y) (suc p) ys k a (omega arith)
    ∙ ap (λ (l : List ℕ). splice l (suc p) ys) (set_comm s p k y a (λ e. omega arith))

pub splice-comm : (s : List ℕ) (p : ℕ) (xs : List ℕ) (q : ℕ) (ys : List ℕ) → p + length xs ≤ q → splice (splice s p xs) q ys ≡ splice (splice s q ys) p xs
unfolding splice
splice-comm s p xs q [] h = refl
splice-comm s p xs q (y ∷ ys) h =
    ap (λ (l : List ℕ). splice l (suc q) ys) (set-splice-above s p xs q y h)
    ∙ splice-comm (set s q y) p xs (suc q) ys (omega arith)

-- ---- reading after a splice

pub take-splice : (n : ℕ) (s : List ℕ) (p : ℕ) (ys : List ℕ) → n ≤ p → take n (splice s p ys) ≡ take n s
unfolding splice
take-splice n s p [] h = refl
take-splice n s p (y ∷ ys) h = take-splice n (set s p y) (suc p) ys (omega arith) ∙ take-set-le n s p y h

pub drop-splice : (n : ℕ) (s : List ℕ) (p : ℕ) (ys : List ℕ) → p + length ys ≤ n → drop n (splice s p ys) ≡ drop n s
unfolding splice
drop-splice n s p [] h = refl
drop-splice n s p (y ∷ ys) h = drop-splice n (set s p y) (suc p) ys (omega arith) ∙ drop-set-lt n s p y (omega arith)

pub drop-take : (q n : ℕ) (s : List ℕ) → take n (drop q s) ≡ drop q (take (q + n) s)
drop-take zero n s = ap (λ (k : ℕ). take k s) (sym (zero-add n))
drop-take (suc q) n [] = simp (lib.Seq.take-nil, lib.Seq.drop-nil)
drop-take (suc q) n (x ∷ s) = rw suc-add (drop-take q n s)

pub part-splice-below : (s : List ℕ) (p : ℕ) (ys : List ℕ) (q n : ℕ) → q + n ≤ p → part (splice s p ys) q n ≡ part s q n
unfolding part
part-splice-below s p ys q n h =
    drop-take q n (splice s p ys) ∙ ap (drop q) (take-splice (q + n) s p ys h) ∙ sym (drop-take q n s)

pub part-splice-above : (s : List ℕ) (p : ℕ) (ys : List ℕ) (q n : ℕ) → p + length ys ≤ q → part (splice s p ys) q n ≡ part s q n
unfolding part
part-splice-above s p ys q n h = ap (take n) (drop-splice q s p ys h)

pub part-splice-same : (s : List ℕ) (p : ℕ) (ys : List ℕ) → p + length ys ≤ length s → part (splice s p ys) p (length ys) ≡ ys
unfolding part
part-splice-same s p ys h =
    ap (λ (l : List ℕ). part l p (length ys)) (splice-is s p ys h)
    ∙ ap (take (length ys)) (drop_at (take p s) (ys ++ drop (p + length ys) s) p (length-take-le p s (omega arith)))
    ∙ take-append_seam ys (drop (p + length ys) s)

pub length_part : (s : List ℕ) (p n : ℕ) → p + n ≤ length s → length (part s p n) ≡ n
unfolding part
length_part s p n h = length-take-le n (drop p s) (simp length-drop (omega arith))

-- a byte stored above a part leaves it
pub take-set-part : (p n : ℕ) (s : List ℕ) (k a : ℕ) → p + n ≤ k → part (set s k a) p n ≡ part s p n
unfolding part
take-set-part p n s k a h = drop-take p n (set s k a) ∙ ap (drop p) (take-set-le (p + n) s k a h) ∙ sym (drop-take p n s)

-- one element more at the end
pub splice-snoc : (s : List ℕ) (p : ℕ) (ys : List ℕ) (y : ℕ) → splice s p (ys ++ (y ∷ [])) ≡ set (splice s p ys) (p + length ys) y
unfolding splice
splice-snoc s p ys y = splice-append s p ys (y ∷ [])

-- one more byte of a copy: what a copy of i bytes, and then of the next one, makes is the copy of i + 1
pub copy_more : (d : List ℕ) (to : ℕ) (s : List ℕ) (from i : ℕ) → from + i < length s
    → splice (splice d to (part s from i)) (to + i) (part s (from + i) 1) ≡ splice d to (part s from (i + 1))
unfolding part
copy_more d to s from i h =
    ap (λ (k : ℕ). splice (splice d to (part s from i)) (to + k) (part s (from + i) 1)) (sym (length_part s from i (omega arith)))
    ∙ sym (splice-append d to (part s from i) (part s (from + i) 1))
    ∙ ap (splice d to) (sym (rw (take-add i 1 (drop from s), drop-drop i from s)))
