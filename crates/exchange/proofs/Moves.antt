-- Laws of the bytes of an exchange, over any list of variables. In order: how many bytes; the first variable; the byte under way; the
-- names; what is left of a list of bytes. Assumes nothing.
use mathlib.Core.Path.{◌≡◌, refl, sym, ap, ap₂, ◌∙◌}
use mathlib.Core.Bool.{Bool, true, false}
use mathlib.Core.List.{List, [], ◌∷◌, ◌++◌}
use Prim.Native.Nat.{ℕ, zero, suc, ◌+◌, ◌≤◌, ◌<◌}
use native.Mathlib.Nat.{add-zero, add-suc, suc-add, not-suc-le-zero}
use native.Mathlib.Numerals.{add-one}
use native.Mathlib.Omega.{arith}
use lib.ListN.{length, take, drop, length-append, length-drop, drop_of_length-le}
use lib.Seq.{drop_at, drop-drop}
use Rattle.verdict.specs.Verdict.{pick}
use Rattle.verdict.proofs.Verdict.{pick_true, pick-false, pick-ap}
use Rattle.protocol.specs.State.{Move}
use Rattle.protocol.specs.Variables.{Variable, span, moves_of}
use Rattle.exchange.specs.Laid.{widths}

-- ---- how many bytes

length-span : (n a b : ℕ) → length (span n a b) ≡ n
length-span zero a b = refl
length-span (suc n) a b = ap suc (length-span n (suc a) (suc b))

module _ (named : Variable → Bool) (from to : Variable → ℕ) where
  length-own : (v : Variable) → length (pick (named v) (span v.width (from v) (to v)) []) ≡ pick (named v) v.width 0
  length-own v = pick-ap length (named v) (span v.width (from v) (to v)) [] ∙ ap (λ (n : ℕ). pick (named v) n 0) (length-span v.width (from v) (to v))

  pub length-moves : (vs : List Variable) → length (moves_of named from to vs) ≡ widths named vs
  unfolding widths
  length-moves [] = refl
  length-moves (v ∷ vs) =
      length-append (pick (named v) (span v.width (from v) (to v)) []) (moves_of named from to vs)
      ∙ ap₂ ◌+◌ (length-own v) (length-moves vs)

  -- ---- the first variable

  pub moves-unnamed : (v : Variable) (vs : List Variable) → named v ≡ false → moves_of named from to (v ∷ vs) ≡ moves_of named from to vs
  moves-unnamed v vs e = ap (λ (l : List Move). l ++ moves_of named from to vs) (pick-false (named v) (span v.width (from v) (to v)) [] e)

  pub moves-named : (v : Variable) (vs : List Variable) → named v ≡ true → moves_of named from to (v ∷ vs) ≡ span v.width (from v) (to v) ++ moves_of named from to vs
  moves-named v vs e = ap (λ (l : List Move). l ++ moves_of named from to vs) (pick_true (named v) (span v.width (from v) (to v)) [] e)

  -- all its bytes are copied
  pub moves-whole : (v : Variable) (vs : List Variable) → named v ≡ true → drop v.width (moves_of named from to (v ∷ vs)) ≡ moves_of named from to vs
  moves-whole v vs e =
      ap (drop v.width) (moves-named v vs e)
      ∙ drop_at (span v.width (from v) (to v)) (moves_of named from to vs) v.width (length-span v.width (from v) (to v))

-- ---- the byte under way

drop-span : (n a b i : ℕ) (ms : List Move) → i < n
    → drop i (span n a b ++ ms) ≡ record { source = a + i; target = b + i } ∷ drop (suc i) (span n a b ++ ms)
drop-span zero a b i ms h = absurd (not-suc-le-zero h)
drop-span (suc n) a b zero ms h = rw (add-zero a, add-zero b)
drop-span (suc n) a b (suc i) ms h =
    rw (add-suc a i, add-suc b i, ← suc-add a i, ← suc-add b i) (drop-span n (suc a) (suc b) i ms (omega arith))

take-span : (n w a b i : ℕ) (ms : List Move) → i + n ≤ w → take n (drop i (span w a b ++ ms)) ≡ span n (a + i) (b + i)
take-span zero w a b i ms h = refl
take-span (suc n) w a b i ms h =
    ap (take (suc n)) (drop-span w a b i ms (omega arith))
    ∙ ap (λ (l : List Move). record { source = a + i; target = b + i } ∷ l)
    (take-span n w a b (suc i) ms (omega arith) ∙ ap₂ (span n) (add-suc a i) (add-suc b i))

-- n bytes of the first variable from its byte i on
pub moves-stretch : (named : Variable → Bool) (from to : Variable → ℕ) (v : Variable) (vs : List Variable) (i n : ℕ) → named v ≡ true → i + n ≤ v.width
    → take n (drop i (moves_of named from to (v ∷ vs))) ≡ span n (from v + i) (to v + i)
moves-stretch named from to v vs i n e h =
    ap (λ (l : List Move). take n (drop i l)) (moves-named named from to v vs e) ∙ take-span n v.width (from v) (to v) i (moves_of named from to vs) h

-- byte i of the first variable is next
pub moves_next : (named : Variable → Bool) (from to : Variable → ℕ) (v : Variable) (vs : List Variable) (i : ℕ) → named v ≡ true → i < v.width
    → drop i (moves_of named from to (v ∷ vs)) ≡ record { source = from v + i; target = to v + i } ∷ drop (i + 1) (moves_of named from to (v ∷ vs))
moves_next named from to v vs i e h =
    ap (drop i) (moves-named named from to v vs e)
    ∙ drop-span v.width (from v) (to v) i (moves_of named from to vs) h
    ∙ ap₂ (λ (n : ℕ) (l : List Move). record { source = from v + i; target = to v + i } ∷ drop n l) (sym (add-one i)) (sym (moves-named named from to v vs e))

-- ---- the names

pub moves-same : (named other : Variable → Bool) (from to : Variable → ℕ) → ((v : Variable) → named v ≡ other v) → (vs : List Variable)
    → moves_of named from to vs ≡ moves_of other from to vs
moves-same named other from to e [] = refl
moves-same named other from to e (v ∷ vs) =
    ap₂ (λ (b : Bool) (l : List Move). pick b (span v.width (from v) (to v)) [] ++ l) (e v) (moves-same named other from to e vs)

-- ---- what is left of n bytes after x of them and one more

pub record Cons (l : List Move) : Type 0 where
  pub head : Move
  pub tail : List Move
  pub is : l ≡ head ∷ tail

cons_of : (l : List Move) → 0 < length l → Cons l
cons_of [] h = absurd (not-suc-le-zero h)
cons_of (m ∷ ms) h = record { head = m; tail = ms; is = refl }

module _ (ms : List Move) {n : ℕ} (e : length ms ≡ n) (x : ℕ) where
  pub left-more : x + 1 < n → Cons (drop 1 (drop x ms))
  left-more h = cons_of (drop 1 (drop x ms)) (rw (drop-drop 1 x ms) (omega (arith, length-drop (x + 1) ms)))

  pub left-last : n ≤ x + 1 → drop 1 (drop x ms) ≡ []
  left-last h = drop-drop 1 x ms ∙ drop_of_length-le ms {i = x + 1} (omega arith)

  pub left-none : n ≤ x → drop x ms ≡ []
  left-none h = drop_of_length-le ms {i = x} (omega arith)
