-- One core's stretch of the buffer, and the buffer as a list of stretches. Assumes nothing.
use mathlib.Core.Path.{◌≡◌, refl, ap, ◌∙◌, subst}
use mathlib.Core.List.{List, [], ◌∷◌, ◌++◌, append_assoc, map}
use Prim.Native.Nat.{ℕ, zero, suc, ◌+◌, ◌≤◌, ◌<◌}
use native.Mathlib.Nat.{zero-add, add_assoc, le_of_suc-le-suc, not-suc-le-zero}
use native.Mathlib.Omega.{arith}
use lib.ListN.{length, take, drop, set, get_or, length-drop, length-append, take-append-drop}
use lib.Seq.{take-add, drop-drop, length-take-le, take-append_seam, drop-append_seam}
use Rattle.memory.specs.Memory.{start, total, split, flat}

-- ---- the stretches

pub length-split : (ns s : List ℕ) → length (split ns s) ≡ length ns
unfolding split
length-split [] s = refl
length-split (n ∷ ns) s = ap suc (length-split ns (drop n s))

pub flat-split : (ns s : List ℕ) → total ns ≡ length s → flat (split ns s) ≡ s
unfolding split flat start total
flat-split [] [] h = refl
flat-split [] (x ∷ s) h = let z : ◌≡◌ {A = ℕ} 0 1 = omega arith in absurd (omega arith)
flat-split (n ∷ ns) s h =
    ap (λ (r : List ℕ). take n s ++ r) (flat-split ns (drop n s) (simp length-drop (omega arith)))
    ∙ take-append-drop n s

pub split-flat : (ls : List (List ℕ)) → split (map length ls) (flat ls) ≡ ls
unfolding split flat
split-flat [] = refl
split-flat (x ∷ ls) =
    ap (λ (r : List ℕ). r ∷ split (map length ls) (drop (length x) (x ++ flat ls))) (take-append_seam x (flat ls))
    ∙ ap (λ (r : List ℕ). x ∷ split (map length ls) r) (drop-append_seam x (flat ls))
    ∙ ap (λ (r : List (List ℕ)). x ∷ r) (split-flat ls)

-- each stretch has its size
pub lengths-split : (ns s : List ℕ) → total ns ≤ length s → map length (split ns s) ≡ ns
unfolding split total
lengths-split [] s h = refl
lengths-split (n ∷ ns) s h =
    ap (λ (m : ℕ). m ∷ map length (split ns (drop n s))) (length-take-le n s (omega arith))
    ∙ ap (λ (l : List ℕ). n ∷ l) (lengths-split ns (drop n s) (simp length-drop (omega arith)))

-- stretch k is a part of the buffer
pub split_at : (ns s : List ℕ) (k : ℕ) → k < length ns → get_or (split ns s) k [] ≡ take (get_or ns k 0) (drop (start ns k) s)
unfolding split start
split_at [] s k h = absurd (not-suc-le-zero h)
split_at (n ∷ ns) s zero h = refl
split_at (n ∷ ns) s (suc k) h = split_at ns (drop n s) k (le_of_suc-le-suc h) ∙ ap (take (get_or ns k 0)) (drop-drop (start ns k) n s)

-- another list in the place of stretch k
pub flat-set : (ns s : List ℕ) (k : ℕ) (x : List ℕ) → k < length ns → total ns ≡ length s
    → flat (set (split ns s) k x) ≡ take (start ns k) s ++ (x ++ drop (start ns k + get_or ns k 0) s)
unfolding split flat start total
flat-set [] s k x h e = absurd (not-suc-le-zero h)
flat-set (n ∷ ns) s zero x h e = rw zero-add (ap (λ (r : List ℕ). x ++ r) (flat-split ns (drop n s) (simp length-drop (omega arith))))
flat-set (n ∷ ns) s (suc k) x h e =
    ap (λ (r : List ℕ). take n s ++ r) (flat-set ns (drop n s) k x (le_of_suc-le-suc h) (simp length-drop (omega arith)))
    ∙ rw (take-add n (start ns k) s, append_assoc, drop-drop (start ns k + get_or ns k 0) n s, add_assoc n (start ns k) (get_or ns k 0))

-- a core's data lie within the buffer
pub start-end : (ns : List ℕ) (k : ℕ) → k < length ns → start ns k + get_or ns k 0 ≤ total ns
unfolding start total
start-end [] k h = absurd (not-suc-le-zero h)
start-end (n ∷ ns) zero h = omega arith
start-end (n ∷ ns) (suc k) h = omega (arith, start-end ns k (le_of_suc-le-suc h))

pub split-flat-of : (ns : List ℕ) (ls : List (List ℕ)) → map length ls ≡ ns → split ns (flat ls) ≡ ls
split-flat-of ns ls e = subst (λ (ms : List ℕ). split ms (flat ls) ≡ ls) e (split-flat ls)

start-next : (ns : List ℕ) (k : ℕ) → k < length ns → start ns k + get_or ns k 0 ≡ start ns (suc k)
unfolding start
start-next [] k h = absurd (not-suc-le-zero h)
start-next (n ∷ ns) zero h = omega arith
start-next (n ∷ ns) (suc k) h = add_assoc n (start ns k) (get_or ns k 0) ∙ ap (λ (m : ℕ). n + m) (start-next ns k (le_of_suc-le-suc h))

pub start-zero : (ns : List ℕ) → 0 ≡ start ns 0
unfolding start
start-zero ns = refl

-- ---- lengths

pub length-flat : (ls : List (List ℕ)) → length (flat ls) ≡ total (map length ls)
unfolding flat total
length-flat [] = refl
length-flat (x ∷ ls) = length-append x (flat ls) ∙ ap (λ (n : ℕ). length x + n) (length-flat ls)
