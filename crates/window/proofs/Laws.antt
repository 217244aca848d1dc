-- What a window is found to be, refused or not; that its stretch lies inside the file or the data buffer, and is what the definition shows.
-- In order: places; refusals; the stretch. Assumes nothing.
use mathlib.Core.Path.{◌≡◌, refl, sym, ap, ap₂, ◌∙◌, subst}
use mathlib.Core.Logic.{◌≢◌}
use mathlib.Core.Bool.{Bool, true, false}
use mathlib.Core.List.{List}
use Prim.Native.Nat.{ℕ, ◌+◌, ◌-◌, ◌≤◌, ◌<◌}
use native.Mathlib.Omega.{arith}
use borrow.Author.Tests.{lt-ltb, le-ltb, le-leb, lt-leb, eq-eqb, ne_eqb, eqb-true, ltb-true, leb-true}
use lib.Dec.{eqb}
use lib.ListN.{length, get_or, take, drop, replicate, length-replicate}
use lib.Seq.{take-take, drop-drop}
use Rattle.verdict.specs.Verdict.{pick}
use Rattle.verdict.proofs.Verdict.{pick_true, pick-false, skip, stop, halt, yes, no, next-none, next-zero, unless-zero, both_true}
use Rattle.memory.specs.Memory.{total, part, start}
use Rattle.memory.proofs.Laws.{drop-take}
use Rattle.memory.proofs.Cores.{split_at, start-end}
use Rattle.records.specs.File.{cores, data_size}
use Rattle.taskset.specs.Judge.{judge}
use Rattle.taskset.specs.Layout.{core_at, core_layout}
use Rattle.taskset.specs.Task.{sizes_of}
use Rattle.taskset.specs.declared.CoreLayout.{CoreLayout}
use Rattle.taskset.proofs.Accepted.{core-facts, base-start, length-listed, listed_at}
use Rattle.window.specs.declared.Shown.{Shown}
use Rattle.window.specs.declared.Shown.TheVariants.{Code, Data}
use Rattle.window.specs.Window.{shown_of, place_in, inside, window_refusal, window_of, Found, window_found, window_at, window_call}

-- ---- places

-- the memory in which a stretch stands
abbrev pub source_of : Shown → List ℕ → List ℕ → List ℕ
source_of Code f d = f
source_of Data f d = d

-- code is not data
pub apart : Code ≡ Data → ⊥
apart e = let z : ◌≡◌ {A = ℕ} 0 1 = cc in omega arith

-- ---- refusals

module _ (f : List ℕ) (buffer : ℕ) (shown : Shown) (k start count : ℕ) where
  abbrev number : ℕ
  number = window_refusal f buffer shown k start count

  pub refused-found : {r : ℕ} {x : Found} → r ≡ number → r ≢ 0 → x ≡ record { refusal = r; from = 0; to = 0 } → x ≡ window_found f buffer shown k start count
  unfolding window_found
  refused-found {r} {x} e n q = q ∙ ap (λ (m : ℕ). record { refusal = m; from = 0; to = 0 }) e ∙ sym (pick-false _ _ _ (ne_eqb _ _ (λ w. n (e ∙ w))))

  pub file-number : {r : ℕ} → r ≡ judge f → r ≢ 0 → r ≡ number
  unfolding window_refusal
  file-number e n = stop _ e n

  module _ (z : judge f ≡ 0) where
    pub lent-number : buffer ≢ total (sizes_of f) → 21 ≡ number
    unfolding window_refusal
    lent-number n = skip z (halt 20 _ (no _ 21 (ne_eqb _ _ n)))

    module _ (b : buffer ≡ total (sizes_of f)) where
      outside : inside f shown k start count ≡ false → 34 ≡ number
      unfolding window_refusal
      outside e = skip z (skip (yes _ 21 (eq-eqb _ _ b)) (sym (no _ 34 e)))

      pub core-number : cores f ≤ k → 34 ≡ number
      core-number l = outside (rw (le-ltb k (cores f) l))

      pub stretch-number : k < cores f → (place_in f shown k).size < start + count → 34 ≡ number
      stretch-number h l = outside (rw (lt-ltb k (cores f) h, lt-leb (start + count) (place_in f shown k).size l))

      pub no_number : k < cores f → start + count ≤ (place_in f shown k).size → number ≡ 0
      unfolding window_refusal
      no_number h l = next-none _ _ z (next-none _ _ (yes _ 21 (eq-eqb _ _ b)) (yes _ 34 (rw (lt-ltb k (cores f) h, le-leb (start + count) (place_in f shown k).size l))))

  pub shown-found : {x : Found} → number ≡ 0 → x ≡ record { refusal = 0; from = (place_in f shown k).base + start; to = (place_in f shown k).base + start + count }
      → x ≡ window_found f buffer shown k start count
  unfolding window_found
  shown-found e q = q ∙ sym (pick_true _ _ _ (eq-eqb _ _ e))

  -- what is known of a window that is shown
  pub record Granted : Type 0 where
    pub accepted : judge f ≡ 0
    pub lent : buffer ≡ total (sizes_of f)
    pub core : k < cores f
    pub fits : start + count ≤ (place_in f shown k).size

  pub granted : number ≡ 0 → Granted
  unfolding window_refusal
  granted e =
      let a = next-zero _ _ e in
      let b = next-zero _ _ a.1 in
      let c = both_true _ _ (unless-zero _ 33 b.1) in
      record { accepted = a.0; lent = eqb-true _ _ (unless-zero _ 20 b.0); core = ltb-true _ _ c.0; fits = leb-true _ _ c.1 }

-- ---- the stretch

-- a part of a part
part-within : (s : List ℕ) (b size i n : ℕ) → i + n ≤ size → part (part s b size) i n ≡ part s (b + i) n
unfolding part
part-within s b size i n h =
    drop-take i n (take size (drop b s))
    ∙ ap (drop i) (take-take (i + n) size (drop b s) h)
    ∙ sym (drop-take i n (drop b s))
    ∙ ap (take n) (drop-drop i b s)

module _ (f d : List ℕ) (k : ℕ) (z : judge f ≡ 0) (h : k < cores f) (l : length d ≡ total (sizes_of f)) where
  in-sizes : k < length (sizes_of f)
  unfolding sizes_of
  in-sizes = omega (arith, length-listed (data_size f) (cores f) 0)

  size-at : get_or (sizes_of f) k 0 ≡ data_size f k
  unfolding sizes_of
  size-at = listed_at (data_size f) (cores f) k 0 h

  laid : core_layout f k ≡ core_at f k
  laid = (core-facts f z k h).laid_out

  pub inside-source : (shown : Shown) → (place_in f shown k).base + (place_in f shown k).size ≤ length (source_of shown f d)
  inside-source Code = subst (λ (c : CoreLayout). c.code + c.length ≤ length f) (sym laid) (core-facts f z k h).code-in-file
  inside-source Data =
      subst (λ (c : CoreLayout). c.base + c.size ≤ length d) (sym laid) (omega (arith, base-start f k (omega arith), size-at, start-end (sizes_of f) k in-sizes))

  pub part-shown : (shown : Shown) (i n : ℕ) → i + n ≤ (place_in f shown k).size → part (source_of shown f d) ((place_in f shown k).base + i) n ≡ part (shown_of shown f d k) i n
  unfolding part
  part-shown Code i n e =
      ap (λ (c : CoreLayout). part f (c.code + i) n) laid
      ∙ sym (part-within f _ _ i n (subst (λ (c : CoreLayout). i + n ≤ c.length) laid e))
  part-shown Data i n e =
      ap (λ (c : CoreLayout). part d (c.base + i) n) laid
      ∙ ap (λ (b : ℕ). part d (b + i) n) (base-start f k (omega arith))
      ∙ sym (part-within d (start (sizes_of f) k) (get_or (sizes_of f) k 0) i n (subst (λ (m : ℕ). i + n ≤ m) (sym size-at) (subst (λ (c : CoreLayout). i + n ≤ c.size) laid e)))
      ∙ ap (λ (s : List ℕ). part s i n) (by_part ∙ sym (split_at (sizes_of f) d k in-sizes))
    where
      by_part : part d (start (sizes_of f) k) (get_or (sizes_of f) k 0) ≡ take (get_or (sizes_of f) k 0) (drop (start (sizes_of f) k) d)
      by_part = refl

-- no sum wraps
pub place-low : (f : List ℕ) (k : ℕ) → judge f ≡ 0 → k < cores f → (shown : Shown) (m : ℕ) → length f ≤ m → total (sizes_of f) ≤ m
    → (place_in f shown k).base + (place_in f shown k).size ≤ m
place-low f k z h shown m a b = go shown
  where
    zeros : List ℕ
    zeros = replicate (total (sizes_of f)) 0

    size : length zeros ≡ total (sizes_of f)
    size = length-replicate (total (sizes_of f)) 0

    go : (shown : Shown) → (place_in f shown k).base + (place_in f shown k).size ≤ m
    go Code = let l = inside-source f zeros k z h size Code in omega (arith, l, a)
    go Data = let l = inside-source f zeros k z h size Data in omega (arith, l, size, b)

-- the ends of a window lie in its memory, and the bytes between them are those of the definition
pub record Ends (f d : List ℕ) (shown : Shown) (k i n : ℕ) (x : Found) : Type 0 where
  pub ordered : x.from ≤ x.to
  pub in_source : x.to ≤ length (source_of shown f d)
  pub bytes : take (x.to - x.from) (drop x.from (source_of shown f d)) ≡ window_of f d shown k i n

pub ends : (f d : List ℕ) (shown : Shown) (k i n : ℕ) → Ends f d shown k i n (window_found f (length d) shown k i n)
unfolding window_found window_of pick part
ends f d shown k i n = go (eqb (window_refusal f (length d) shown k i n) 0) refl
  where
    go : (b : Bool) → eqb (window_refusal f (length d) shown k i n) 0 ≡ b → Ends f d shown k i n
        (pick b
        (record { refusal = 0; from = (place_in f shown k).base + i; to = (place_in f shown k).base + i + n })
        (record { refusal = window_refusal f (length d) shown k i n; from = 0; to = 0 }))
    go true e =
        let g = granted f (length d) shown k i n (eqb-true _ _ e) in
        let l = inside-source f d k g.accepted g.core g.lent shown in
        let c : (place_in f shown k).base + i + n - ((place_in f shown k).base + i) ≡ n = omega arith in
        record {
          ordered = omega arith;
          in_source = omega (arith, l, g.fits);
          bytes =
              ap (λ (m : ℕ). take m (drop ((place_in f shown k).base + i) (source_of shown f d))) c
              ∙ part-shown f d k g.accepted g.core g.lent shown i n g.fits
              ∙ sym (pick_true _ _ _ e);
        }
    go false e = record { ordered = omega arith; in_source = omega arith; bytes = sym (pick-false _ _ _ e) }

-- the same of what was found, in the arm of a `match`
pub ends_at : (f d : List ℕ) (shown : Shown) (k i n : ℕ) {x : Found} → x ≡ window_found f (length d) shown k i n → (s : Shown) → shown ≡ s → Ends f d s k i n x
ends_at f d shown k i n {x} e s q = subst (λ (y : Found). Ends f d s k i n y) (sym (e ∙ ap (λ (y : Shown). window_found f (length d) y k i n) q)) (ends f d s k i n)

pub number-found : (f : List ℕ) (buffer : ℕ) (shown : Shown) (k i n : ℕ) {x : Found} → x ≡ window_found f buffer shown k i n → x.refusal ≡ window_refusal f buffer shown k i n
unfolding window_found pick
number-found f buffer shown k i n e = ap (λ (y : Found). y.refusal) e ∙ go (eqb (window_refusal f buffer shown k i n) 0) refl
  where
    go : (b : Bool) → eqb (window_refusal f buffer shown k i n) 0 ≡ b
        → (pick {A = Found} b
        (record { refusal = 0; from = (place_in f shown k).base + i; to = (place_in f shown k).base + i + n })
        (record { refusal = window_refusal f buffer shown k i n; from = 0; to = 0 })).refusal ≡ window_refusal f buffer shown k i n
    go true q = sym (eqb-true _ _ q)
    go false q = refl

-- over C
module _ (f : List ℕ) (buffer : ℕ) (shown : Shown) (k i n : ℕ) {x : Found} (e : x ≡ window_found f buffer shown k i n) (place : ℕ) where
  pub call-refused : x.refusal ≢ 0 → window_at x.refusal place ≡ window_call f buffer shown k i n place
  unfolding window_call
  call-refused m =
      let q = number-found f buffer shown k i n e in
      ap₂ window_at q (sym (pick-false _ _ _ (ne_eqb _ _ (λ w. m (q ∙ w)))))

  pub call-shown : x.refusal ≡ 0 → window_at 0 x.from ≡ window_call f buffer shown k i n place
  unfolding window_call window_found
  call-shown m =
      let q : window_refusal f buffer shown k i n ≡ 0 = sym (number-found f buffer shown k i n e) ∙ m in
      ap₂ window_at (sym q) (ap (λ (y : Found). y.from) (e ∙ pick_true _ _ _ (eq-eqb _ _ q)) ∙ sym (pick_true _ _ _ (eq-eqb _ _ q)))
