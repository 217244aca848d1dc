-- One turn of each loop that reads or writes a buffer, in the code's own arithmetic. Each says that what is left to do after
-- the turn makes the same of the buffer as what was left to do before it. Assumes nothing.
use mathlib.Core.Path.{◌≡◌, refl, sym, ap, ◌∙◌}
use mathlib.Core.List.{List, [], ◌∷◌, ◌++◌, append-nil, append_assoc}
use Prim.Native.Nat.{ℕ, suc, ◌+◌, ◌-◌, ◌*◌, ◌/◌, ◌%◌, ◌^◌, ◌≤◌, ◌<◌}
use native.Mathlib.Nat.{add-zero, sub-zero}
use Rattle.std.proofs.Common.{add-one}
use native.Mathlib.Omega.{arith}
use lib.Dec.{lit<}
use mir.Syntax.{w8, w64}
use mir.Val.{Fits}
use Rattle.memory.proofs.Number.{read-lt, read_fits}
use lib.ListN.{length, take, drop, get_or, set, length-drop}
use lib.Seq.{drop-cons, take-suc, take-suc-set, get_or-drop, drop-drop, take_all, take-append_seam}
use borrow.Rule.Slice.PartMut.{put_mid}
use Rattle.std.proofs.lemmas.List.{length_push, take-take, get_or_push, get_or-take}
use Rattle.memory.specs.Memory.{splice, part, bytes_le, value_le, read_le}
use Rattle.memory.proofs.Laws.{splice-is, part-splice-same, length_part}

-- the n elements from p on: the one at p, then the rest
pub part-cons : (s : List ℕ) (p n k q : ℕ) → n ≡ suc k → q ≡ suc p → p < length s → part s p n ≡ get_or s p 0 ∷ part s q k
unfolding part
part-cons s p n k q e f h = rw (e, f, drop-cons s p 0)

-- the n elements from p on: the first k, then the last one
pub part-snoc : (s : List ℕ) (p n k : ℕ) → n ≡ suc k → p + k < length s → part s p n ≡ part s p k ++ (get_or s (p + k) 0 ∷ [])
unfolding part
part-snoc s p n k e h =
    let b : k < length (drop p s) = simp length-drop (omega arith) in
    rw (e, take-suc (drop p s) k 0, get_or-drop)

pub splice-turn : (s : List ℕ) (p y : ℕ) (ys : List ℕ) (q : ℕ) → q ≡ suc p → splice s p (y ∷ ys) ≡ splice (set s p y) q ys
unfolding splice
splice-turn s p y ys q e = rw e

-- ---- a write of n bytes over a part of the buffer

pub put_part : (d ys zs : List ℕ) (p n k : ℕ) → p + n ≤ length d → ys ≡ zs → length zs ≡ n → k ≡ n → put_mid p k d ys ≡ splice d p zs
put_part d ys zs p n k h e l q =
    rw (e, q, drop-drop n p d) (sym (rw l at (splice-is d p zs (rw l h))))

-- ---- a number written, low byte first: what is written and what is left to write are its bytes

pub store-turn : (items : List ℕ) (w i v : ℕ) → i < w → i < length items
    → take (i + 1) (set items i (v % 256)) ++ bytes_le (w - (i + 1)) (v / 256) ≡ take i items ++ bytes_le (w - i) v
unfolding bytes_le
store-turn items w i v h k =
    let e : w - i ≡ suc (w - (i + 1)) = omega arith in
    rw (add-one, take-suc-set items i (v % 256), append_assoc, e, add-one) refl

pub store-done : (items : List ℕ) (w i v : ℕ) → w ≤ i → length items ≤ i → take i items ++ bytes_le (w - i) v ≡ items
unfolding bytes_le
store-done items w i v h k = let e : w - i ≡ 0 = omega arith in rw (e, append-nil, take_all i items k) refl

-- ---- a number read, its high byte first

-- what is left to read are the first of its bytes, and v is the number in those behind
pub record Reading (d : List ℕ) (p w v : ℕ) (rest : List ℕ) : Type 0 where
  pub within : length rest ≤ w
  pub here : rest ≡ part d p (length rest)
  pub number : v ≡ read_le d (p + length rest) (w - length rest)
  pub fits : v < 256 ^ (w - length rest)

pub load-start : (d : List ℕ) (p w : ℕ) (rest : List ℕ) → p + w ≤ length d → rest ≡ part d p w → Reading d p w 0 rest
unfolding read_le value_le part
load-start d p w rest h e =
    let l : length rest ≡ w = ap length e ∙ length_part d p w h in
    let none : w - length rest ≡ 0 = omega arith in
    record { within = omega arith; here = rw l e; number = rw none refl; fits = rw none (lit< tt) }

last-of : (d : List ℕ) (p b : ℕ) (rest less : List ℕ) → p + length rest ≤ length d → rest ≡ part d p (length rest) → rest ≡ less ++ (b ∷ [])
    → (length rest ≡ suc (length less)) × (less ≡ part d p (length less)) × (b ≡ get_or d (p + length less) 0)
unfolding part
last-of d p b rest less h e q =
    let l : length rest ≡ suc (length less) = ap length q ∙ length_push less b ∙ add-one (length less) in (
      l,
      sym (take-append_seam less (b ∷ [])) ∙ ap (take (length less)) (sym q ∙ e) ∙ take-take (length less) (length rest) (drop p d) (omega arith),
      sym (get_or_push less b 0 (length less) refl) ∙ ap (λ (s : List ℕ). get_or s (length less) 0) (sym q ∙ e)
          ∙ get_or-take (length rest) (drop p d) (length less) 0 (omega arith) ∙ get_or-drop p d (length less) 0,
    )

pub load-turn : (d : List ℕ) (p w v b x : ℕ) (rest less : List ℕ) → p + w ≤ length d → ((j : ℕ) → Fits w8 (get_or d j 0)) → x ≡ b → rest ≡ less ++ (b ∷ [])
    → Reading d p w v rest → Reading d p w (v * 256 + x) less
unfolding read_le value_le
load-turn d p w v b x rest less h bytes same q r =
    let t = last-of d p b rest less (omega (arith, r.within)) r.here q in
    let k : ℕ = length less in
    let e : length rest ≡ suc k = t.0 in
    let number : v * 256 + x ≡ read_le d (p + k) (w - k) =
    ap (λ (m : ℕ). m * 256 + x) (r.number ∙ rw e refl) ∙ ap (λ (y : ℕ). read_le d (p + suc k) (w - suc k) * 256 + y) (same ∙ t.2)
    ∙ sym (ap value_le (part-cons d (p + k) (w - k) (w - suc k) (p + suc k) (omega (arith, r.within)) (omega arith) (omega (arith, r.within)))) in
    record {
      within = omega (arith, r.within);
      here = t.1;
      number = number;
      fits = rw number (read-lt d (p + k) (w - k) (λ j. (bytes j).fits));
    }

-- one more byte fits in 64 bits
pub load-fits : (d : List ℕ) (p w v b x : ℕ) (rest less : List ℕ) → p + w ≤ length d → w ≤ 8 → ((j : ℕ) → Fits w8 (get_or d j 0)) → x ≡ b → rest ≡ less ++ (b ∷ [])
    → Reading d p w v rest → Fits w64 (v * 256 + x)
load-fits d p w v b x rest less h k bytes same q r =
    let t = last-of d p b rest less (omega (arith, r.within)) r.here q in
    let few : w - length rest < 8 = omega (arith, t.0) in
    let small : x < 256 = rw (same, t.2) (bytes (p + length less)).fits in
    rw r.number (read_fits d (p + length rest) (w - length rest) x bytes few small)

pub load-done : (d : List ℕ) (p w v : ℕ) (rest : List ℕ) → length rest ≡ 0 → Reading d p w v rest → (v ≡ read_le d p w) × (v < 256 ^ w)
load-done d p w v rest e r = (r.number ∙ rw (e, add-zero, sub-zero) refl, rw (e, sub-zero) at r.fits)

-- ---- where a loop that goes up ends

pub copy_done : (d : List ℕ) (p : ℕ) (s : List ℕ) (q n i : ℕ) → n ≤ i → splice d p (part s q (n - i)) ≡ d
unfolding splice part
copy_done d p s q n i h = let e : n - i ≡ 0 = omega arith in rw e

-- a copy of one byte is one store
pub byte-done : (d : List ℕ) (to : ℕ) (s : List ℕ) (from : ℕ) → from < length s → set d to (get_or s from 0) ≡ splice d to (part s from 1)
unfolding splice part
byte-done d to s from h = rw (drop-cons s from 0)

-- out to another list and back in again is the same as within
pub through : (d z t e : List ℕ) (to from n : ℕ) → from + n ≤ length d → n ≤ length z
    → t ≡ splice z 0 (part d from n) → e ≡ splice d to (part t 0 n) → e ≡ splice d to (part d from n)
through d z t e to from n h k p q =
    q ∙ ap (λ (l : List ℕ). splice d to (part l 0 n)) p
    ∙ ap (λ (m : ℕ). splice d to (part (splice z 0 (part d from n)) 0 m)) (sym (length_part d from n h))
    ∙ ap (splice d to) (part-splice-same z 0 (part d from n) (rw (length_part d from n h) (omega arith)))
