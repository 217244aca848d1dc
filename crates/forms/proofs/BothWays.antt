-- `becomes-new`, `goes_back`, `becomes-old`: what specs/BothWays claims of the two forms. A file is what its own form makes of it, so both ways together return
-- it. In order: the bytes of a file in either form; all counts 0; an old file; a new file. Assumes nothing.
use mathlib.Core.Path.{◌≡◌, refl, sym, ap, ap₂, ◌∙◌, subst}
use mathlib.Core.Logic.{inl, inr}
use mathlib.Core.Bool.{Bool, true, false}
use mathlib.Core.List.{List, [], ◌∷◌, ◌++◌, append_assoc}
use Prim.Native.Nat.{ℕ, zero, suc, ◌+◌, ◌-◌, ◌*◌, ◌≤◌, ◌<◌}
use native.Mathlib.Omega.{arith}
use borrow.Author.Tests.{le-leb, eq-eqb, eqb-true, ltb-true, ltb-false}
use lib.Dec.{ltb, eqb}
use lib.ListN.{length, take, drop, length-append, length-replicate, length-drop, take-append-drop}
use lib.Seq.{take_all, take-add, get_or-drop}
use Rattle.verdict.specs.Verdict.{upto, unless}
use Rattle.verdict.proofs.Verdict.{pick_true, pick-false, yes, next-zero, next-none, unless-zero, below}
use Rattle.verdict.proofs.Truth.{holds, tested}
use Rattle.memory.specs.Memory.{byte, word, part}
use Rattle.memory.proofs.Laws.{length_part}
use Rattle.memory.proofs.Number.{read_word, read-beyond}
use Rattle.protocol.specs.Fresh.{zeros}
use Rattle.records.specs.File.{cores}
use Rattle.records.specs.Records.{present}
use Rattle.code.specs.declared.Profile.TheVariants.{Full}
use Rattle.taskset.specs.Judge.{old_mark, new_mark, has_mark, is_old, is_new, code_place, code_of, start_sections, start_place, file_end, judge}
use Rattle.taskset.specs.Rules.{Mark, WellFormed}
use Rattle.taskset.specs.Starts.{start_count}
use Rattle.taskset.proofs.Exact.{keeps-rules, accepts, marked-is, old-not-new, starts-begin, code_inside}
use Rattle.forms.specs.Forms.{body_of, to_new, to_old, no_starts, to_old_refusal}
use Rattle.forms.specs.BothWays.{SameTask, NoStarts, BecomesNew, GoesBack, BecomesOld}
use Rattle.forms.proofs.Alike.{Alike, alike-zeros, turned, start-least, code-rises, word-alike, part-alike, cores-alike, data-alike, input-alike, limit-alike, all-variables-alike, start-place-alike, code_alike, no-code-alike, well-alike}

-- ---- the bytes of a file

module _ (f : List ℕ) (accepted : judge f ≡ 0) where
  w : WellFormed f
  w = keeps-rules f accepted

  -- the code ends in the file, behind the mark
  pub body-begins : 4 ≤ start_place f 0
  body-begins = omega (arith, start-least f 0)

  pub body-ends : start_place f 0 ≤ length f
  body-ends = starts-begin f w.ends 0 (omega arith)

  pub long : 4 ≤ length f
  long = omega (arith, body-begins, body-ends)

  pub length-body : length (body_of f) ≡ start_place f 0 - 4
  unfolding body_of
  length-body = length_part f 4 (start_place f 0 - 4) (omega (arith, body-begins, body-ends))

  -- the file: mark, body, start values
  parted : f ≡ take 4 f ++ (body_of f ++ drop (start_place f 0) f)
  unfolding body_of part
  parted =
      sym (take-append-drop (start_place f 0) f)
      ∙ ap (λ (l : List ℕ). l ++ drop (start_place f 0) f)
      (ap (λ (n : ℕ). take n f) (let e : start_place f 0 ≡ 4 + (start_place f 0 - 4) = omega (arith, body-begins) in e) ∙ take-add 4 (start_place f 0 - 4) f)
      ∙ append_assoc (take 4 f) (take (start_place f 0 - 4) (drop 4 f)) (drop (start_place f 0) f)

  pub length-old : length (to_old f) ≡ start_place f 0
  unfolding to_old
  length-old = length-append old_mark (body_of f) ∙ omega (arith, length-body, body-begins)

  pub length-new : length (to_new f) ≡ start_place f 0 + 2 * cores f
  unfolding to_new
  length-new =
      length-append new_mark (body_of f ++ zeros (2 * cores f))
      ∙ omega (arith, length-append (body_of f) (zeros (2 * cores f)), length-replicate {A = ℕ} (2 * cores f) 0, length-body, body-begins)

  -- ---- where each core's start values begin: two bytes a core, and three for each start value
  start-far : (k : ℕ) → start_place f 0 + 2 * k ≤ start_place f k
  unfolding start_place
  start-far zero = omega arith
  start-far (suc k) = omega (arith, start-far k)

  start-near : (k : ℕ) → ((j : ℕ) → j < k → word f (start_place f j) ≡ 0) → start_place f k ≡ start_place f 0 + 2 * k
  unfolding start_place
  start-near zero h = omega arith
  start-near (suc k) h = omega (arith, start-near k (λ j l. h j (omega arith)), h k (omega arith))

  none_before : (k : ℕ) → start_place f k ≡ start_place f 0 + 2 * k → (j : ℕ) → j < k → word f (start_place f j) ≡ 0
  unfolding start_place
  none_before zero e j l = absurd (let y : ⊥ = omega arith in y)
  none_before (suc k) e j l = go (ltb j k) refl (none_before k (omega (arith, start-far k)))
    where
      go : (b : Bool) → ltb j k ≡ b → ((i : ℕ) → i < k → word f (start_place f i) ≡ 0) → word f (start_place f j) ≡ 0
      go true t before = before j (ltb-true j k t)
      go false t before =
          let q : j ≡ k = omega (arith, ltb-false j k t) in
          ap (λ (i : ℕ). word f (start_place f i)) q ∙ omega (arith, start-far k)

  module _ (new : is_new f ≡ true) where
    sections : start_sections f ≡ cores f
    sections = pick_true (is_new f) (cores f) 0 new

    counted : (k : ℕ) → start_count f k ≡ word f (start_place f k)
    counted k = pick_true (is_new f) (word f (start_place f k)) 0 new

    ending : start_place f (cores f) ≡ length f
    ending = ap (start_place f) (sym sections) ∙ w.ends

    -- the test by the length
    pub short_none : length f ≡ start_place f 0 + 2 * cores f → NoStarts f
    short_none e k h = counted k ∙ none_before (cores f) (ending ∙ e) k h

    pub none-short : NoStarts f → length f ≡ start_place f 0 + 2 * cores f
    none-short n = sym ending ∙ start-near (cores f) (λ j l. sym (counted j) ∙ n j l)

-- ---- all counts 0, as a test

upto_all : (t : ℕ → Bool) (n : ℕ) → ((k : ℕ) → k < n → t k ≡ true) → upto t n ≡ true
upto_all t zero h = refl
upto_all t (suc n) h = rw (h n (omega arith)) (upto_all t n (λ k l. h k (omega arith)))

pub none-tested : (f : List ℕ) → NoStarts f → no_starts f ≡ true
unfolding no_starts
none-tested f n = upto_all (λ k. eqb (start_count f k) 0) (cores f) (λ k h. eq-eqb (start_count f k) 0 (n k h))

pub tested-none : (f : List ℕ) → no_starts f ≡ true → NoStarts f
unfolding no_starts
tested-none f e k h = eqb-true (start_count f k) 0 (holds _ (below (λ k. eqb (start_count f k) 0) (cores f) (tested _ e) k h))

-- ---- an old file

module _ (f : List ℕ) (accepted : judge f ≡ 0) (old : is_old f ≡ true) where
  rules : WellFormed f
  rules = keeps-rules f accepted

  -- its code ends where it ends
  pub old-ends : start_place f 0 ≡ length f
  old-ends = ap (start_place f) (sym (pick-false (is_new f) (cores f) 0 (old-not-new f old))) ∙ rules.ends

  -- it is what the old form makes of it
  pub old_fixed : to_old f ≡ f
  unfolding to_old body_of part
  old_fixed =
      ap₂ (λ (a b : List ℕ). a ++ b) (sym (marked-is 77 67 83 49 f (long f accepted) old))
      (take_all (start_place f 0 - 4) (drop 4 f) (omega (arith, length-drop 4 f, old-ends)))
      ∙ take-append-drop 4 f

  new-alike : Alike f (to_new f)
  unfolding to_new to_old
  new-alike = subst (λ (l : List ℕ). Alike l (to_new f)) old_fixed (alike-zeros 77 67 83 49 77 67 83 50 (body_of f) (2 * cores f))

  -- all that is read past its end is 0
  none_after : (k : ℕ) → word f (start_place f k) ≡ 0
  none_after k = read-beyond f (start_place f k) 2 (omega (arith, start-far f accepted k, old-ends))

  same_body : body_of (to_new f) ≡ body_of f
  unfolding body_of
  same_body =
      ap (λ (p : ℕ). part (to_new f) 4 (p - 4)) (sym (start-place-alike f (to_new f) new-alike 0))
      ∙ sym (part-alike f (to_new f) new-alike 4 (start_place f 0 - 4) (omega arith) (omega (arith, body-begins f accepted, body-ends f accepted)) (omega (arith, length-new f accepted, body-begins f accepted)))

  new-marked : is_new (to_new f) ≡ true
  unfolding to_new has_mark
  new-marked = refl

  new-sections : start_sections (to_new f) ≡ cores (to_new f)
  new-sections = pick_true (is_new (to_new f)) (cores (to_new f)) 0 new-marked

  pub no-count : (k : ℕ) → word (to_new f) (start_place (to_new f) k) ≡ 0
  no-count k =
      ap (word (to_new f)) (sym (start-place-alike f (to_new f) new-alike k))
      ∙ sym (word-alike f (to_new f) new-alike (start_place f k) (omega (arith, start-least f k)))
      ∙ none_after k

  new-mark-is : Mark (to_new f)
  unfolding to_new
  new-mark-is = inr refl

  new-ends : file_end (to_new f) ≡ length (to_new f)
  new-ends =
      ap (start_place (to_new f)) (new-sections ∙ sym (cores-alike f (to_new f) new-alike))
      ∙ sym (start-place-alike f (to_new f) new-alike (cores f))
      ∙ start-near f accepted (cores f) (λ j l. none_after j)
      ∙ sym (length-new f accepted)

  code_same : (k : ℕ) → code_of f k ≡ code_of (to_new f) k
  unfolding start_place
  code_same k = go (ltb k (cores f)) refl
    where
      go : (b : Bool) → ltb k (cores f) ≡ b → code_of f k ≡ code_of (to_new f) k
      go true e =
          let l = code_inside f rules.ends k (ltb-true k (cores f) e) in
          code_alike f (to_new f) new-alike k l (omega (arith, l, length-new f accepted, old-ends))
      go false e =
          let h : cores f ≤ k = ltb-false k (cores f) e in
          let r : code_place f (cores f) ≤ code_place f (cores f + (k - cores f)) = code-rises f (cores f) (k - cores f) in
          let q : code_place f (cores f + (k - cores f)) ≡ code_place f k = ap (code_place f) (let p : cores f + (k - cores f) ≡ k = omega arith in p) in
          no-code-alike f (to_new f) new-alike k (read-beyond f (code_place f k) 2 (omega (arith, old-ends)))

  pub becomes-new : BecomesNew f
  unfolding to_old
  becomes-new =
      record {
        accepted = accepts-new;
        new = new-marked;
        counts = λ k h. pick_true (is_new (to_new f)) (word (to_new f) (start_place (to_new f) k)) 0 new-marked ∙ no-count k;
        same = record {
          number = cores-alike f (to_new f) new-alike;
          data-size = data-alike f (to_new f) new-alike;
          input-size = input-alike f (to_new f) new-alike;
          limits = limit-alike f (to_new f) new-alike;
          all-variables = all-variables-alike f (to_new f) new-alike;
          code = code_same;
        };
        back = back-again;
      }
    where
      accepts-new : judge (to_new f) ≡ 0
      accepts-new =
          accepts Full (to_new f)
          (well-alike f (to_new f) new-alike rules (omega (arith, length-new f accepted)) new-mark-is (λ k h i l. absurd (let z = no-count k in let y : ⊥ = omega arith in y)) new-ends)

      back-again : to_old (to_new f) ≡ f
      back-again = ap (λ (l : List ℕ). old_mark ++ l) same_body ∙ old_fixed

-- ---- a new file

-- bytes that spell counts of 0 are zeros
zero-words : (n : ℕ) (s : List ℕ) → length s ≡ 2 * n → ((k : ℕ) → k < n → word s (2 * k) ≡ 0) → s ≡ zeros (2 * n)
zero-words zero [] e h = refl
zero-words zero (a ∷ s) e h = absurd (let y : ⊥ = omega arith in y)
zero-words (suc n) [] e h = absurd (let y : ⊥ = omega arith in y)
zero-words (suc n) (a ∷ []) e h = absurd (let y : ⊥ = omega arith in y)
zero-words (suc n) (a ∷ b ∷ s) e h =
    let z : a + 256 * b ≡ 0 = sym (read_word (a ∷ b ∷ s) 0) ∙ h 0 (omega arith) in
    let ih : s ≡ zeros (2 * n) = zero-words n s (omega arith) (λ k l. after k ∙ h (suc k) (omega arith)) in
    let t : 2 * suc n ≡ suc (suc (2 * n)) = omega arith in
    let p : a ≡ 0 = omega arith in
    let q : b ≡ 0 = omega arith in
    ap₂ (λ (x y : ℕ). x ∷ y ∷ s) p q ∙ ap (λ (l : List ℕ). 0 ∷ 0 ∷ l) ih ∙ ap zeros (sym t)
  where
    after : (k : ℕ) → word s (2 * k) ≡ word (a ∷ b ∷ s) (2 * suc k)
    after k =
        read_word s (2 * k)
        ∙ sym
        (ap (word (a ∷ b ∷ s)) (let t : 2 * suc k ≡ suc (suc (2 * k)) = omega arith in t)
        ∙ read_word (a ∷ b ∷ s) (suc (suc (2 * k)))
        ∙ ap (λ (j : ℕ). byte s (2 * k) + 256 * byte (a ∷ b ∷ s) j) (let t : suc (suc (2 * k)) + 1 ≡ suc (suc (2 * k + 1)) = omega arith in t))

module _ (f : List ℕ) (accepted : judge f ≡ 0) (new : is_new f ≡ true) where
  pub goes_back : (room : ℕ) → length (to_old f) ≤ room → GoesBack f room
  unfolding to_old_refusal
  goes_back room h =
      record {
        exactly = λ z.
            let a = next-zero (present f 4) _ z in
            let b = next-zero (unless (is_new f) 2) _ a.1 in
            let c = next-zero (judge f) _ b.1 in
            tested-none f (unless-zero _ 31 (next-zero (unless (no_starts f) 32) _ c.1).0);
        if_none = λ n.
            next-none _ _ (yes _ 1 (le-leb 4 (length f) (long f accepted)))
            (next-none _ _ (yes _ 2 new) (next-none _ _ accepted (next-none _ _ (yes _ 32 (none-tested f n)) (yes _ 21 (le-leb (length (to_old f)) room h)))));
      }

  module _ (n : NoStarts f) where
    back-rules : WellFormed f
    back-rules = keeps-rules f accepted

    -- it is what the new form makes of it
    new-fixed : to_new f ≡ f
    unfolding to_new
    new-fixed =
        ap₂ (λ (a b : List ℕ). a ++ (body_of f ++ b)) (sym (marked-is 77 67 83 50 f (long f accepted) new)) (sym counts_zero) ∙ sym (parted f accepted)
      where
        counts_zero : drop (start_place f 0) f ≡ zeros (2 * cores f)
        counts_zero =
            zero-words (cores f) (drop (start_place f 0) f) (length-drop (start_place f 0) f ∙ omega (arith, none-short f accepted new n))
            (λ k h.
            read_word (drop (start_place f 0) f) (2 * k)
            ∙ ap₂ (λ (a b : ℕ). a + 256 * b) (get_or-drop (start_place f 0) f (2 * k) 0) (get_or-drop (start_place f 0) f (2 * k + 1) 0 ∙ ap (byte f) (let e : start_place f 0 + (2 * k + 1) ≡ start_place f 0 + 2 * k + 1 = omega arith in e))
            ∙ sym (read_word f (start_place f 0 + 2 * k))
            ∙ ap (word f) (sym (start-near f accepted k (λ j l. sym (counted f accepted new j) ∙ n j (omega arith))))
            ∙ sym (counted f accepted new k)
            ∙ n k h)

    old-alike : Alike f (to_old f)
    unfolding to_new to_old
    old-alike = turned (subst (Alike (to_old f)) new-fixed (alike-zeros 77 67 83 49 77 67 83 50 (body_of f) (2 * cores f)))

    old-marked : is_old (to_old f) ≡ true
    unfolding to_old has_mark
    old-marked = refl

    old-sections : start_sections (to_old f) ≡ 0
    old-sections = pick-false (is_new (to_old f)) (cores (to_old f)) 0 (old-not-new (to_old f) old-marked)

    old-mark-is : Mark (to_old f)
    unfolding to_old
    old-mark-is = inl refl

    accepts-old : judge (to_old f) ≡ 0
    accepts-old =
        accepts Full (to_old f)
        (well-alike f (to_old f) old-alike back-rules (omega (arith, length-old f accepted)) old-mark-is (λ k h i l. absurd (let z = old-sections in let y : ⊥ = omega arith in y))
        (ap (start_place (to_old f)) old-sections ∙ sym (start-place-alike f (to_old f) old-alike 0) ∙ sym (length-old f accepted)))

    old-body : body_of (to_old f) ≡ body_of f
    unfolding body_of
    old-body =
        ap (λ (p : ℕ). part (to_old f) 4 (p - 4)) (sym (start-place-alike f (to_old f) old-alike 0))
        ∙ sym (part-alike f (to_old f) old-alike 4 (start_place f 0 - 4) (omega arith) (omega (arith, body-begins f accepted, body-ends f accepted)) (omega (arith, length-old f accepted, body-begins f accepted)))

    new-again : to_new (to_old f) ≡ f
    unfolding to_new
    new-again = ap₂ (λ (l : List ℕ) (m : ℕ). new_mark ++ (l ++ zeros (2 * m))) old-body (sym (cores-alike f (to_old f) old-alike)) ∙ new-fixed

    pub becomes-old : BecomesOld f
    becomes-old =
        record {
          accepted = accepts-old;
          old = old-marked;
          same = turned_same (subst (SameTask (to_old f)) new-again (becomes-new (to_old f) accepts-old old-marked).same);
          back = new-again;
        }
      where
        turned_same : SameTask (to_old f) f → SameTask f (to_old f)
        turned_same s = record {
          number = sym s.number;
          data-size = λ k. sym (s.data-size k);
          input-size = λ k. sym (s.input-size k);
          limits = λ k. sym (s.limits k);
          all-variables = sym s.all-variables;
          code = λ k. sym (s.code k);
        }
