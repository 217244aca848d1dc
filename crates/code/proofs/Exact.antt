-- The number of a core's code is that of the first of its rules that is broken (`code-in-order`), in the order of `specs/Rules`; so it is 0
-- exactly if all are kept. In order: starts; the instructions; the targets; the last instruction; all of it; number by number. Assumes nothing.
use mathlib.Core.Path.{◌≡◌, refl, ap, ◌∙◌, subst}
use mathlib.Core.Bool.{Bool, true, false}
use mathlib.Core.Logic.{◌⊎◌, inl, inr}
use mathlib.Core.List.{List, [], ◌∷◌}
use Prim.Native.Nat.{ℕ, zero, suc, ◌+◌, ◌≤◌, ◌<◌}
use native.Mathlib.Omega.{arith}
use borrow.Author.Tests.{lt-ltb, ltb-true, ltb-false}
use lib.Dec.{ltb}
use lib.ListN.{length}
use Rattle.verdict.specs.Verdict.{pick, next, unless}
use Rattle.verdict.specs.Items.{OneOf, item, for_each, First}
use Rattle.verdict.proofs.Verdict.{next-zero, next-none, unless-zero, yes}
use Rattle.verdict.proofs.Items.{Judges, judges-none, judges-one, judges-both, judged}
use Rattle.memory.specs.Memory.{byte}
use Rattle.code.specs.Flow.{kind_at, goes_to, target_at, after}
use Rattle.code.specs.declared.Profile.{Profile}
use Rattle.code.specs.declared.Profile.TheVariants.{Full, Small}
use Rattle.code.specs.Profiles.{types_at, carries}
use Rattle.code.specs.Code.{instruction_ok, instruction_refusal, laid, is_start, all_from, target_ok, last_from, ends, judge_code_for, judge_code}
use Rattle.code.specs.Rules.{InstructionRules, NoWide, Start, first, then, starts_from, Instructions, Targets, Last, Carried, WellFormedCodeFor, WellFormedCode, type_items, code_items_for, code_items}
use Rattle.code.proofs.Laws.{is, whole, full-small, carried_none}
use Rattle.code.proofs.Passes.{laid_one, laid_both, laid_end, laid-full, all_one, all_end, last_one, last_end}
use Rattle.code.proofs.Sound.{each, each-ok, each-passes, inside-code, next-starts, end-is-last, start-zero, target-starts, judged-for as found}
use Rattle.code.proofs.Rules.{keeps-instruction, accepts-instruction, target_is, has-target}
use Rattle.code.proofs.Types.{keeps-types, accepts-types}

-- ---- the two ways of saying where an instruction starts

pub start_is : (c : List ℕ) {p : ℕ} → laid Full (length c) c 0 ≡ 0 → Start c p → is_start c p ≡ true
start_is c l (first h) = start-zero c h
start_is c l (then s h) = next-starts c _ l (start_is c l s) h

-- the walk stands at a start, or past the end
pub is-start : (c : List ℕ) (p : ℕ) → 0 < length c → is_start c p ≡ true → Start c p
unfolding is_start
is-start c p h w = each c (Start c) (λ k q. q < length c → Start c q) (λ k q i s. (s i, λ g. then (s i) g)) (length c) 0 p (λ i. first h) w

-- ---- the instructions

instruction-judged : (o : Profile) (c : List ℕ) (p : ℕ) → Judges (item 6 (InstructionRules c p) ∷ type_items o c p) (instruction_refusal o c p)
unfolding instruction_refusal unless
instruction-judged Full c p = judges-both (judges-one 5 (instruction_ok c p) (keeps-instruction c p) (accepts-instruction c p)) (λ z. judges-none)
instruction-judged Small c p =
    judges-both (judges-one 5 (instruction_ok c p) (keeps-instruction c p) (accepts-instruction c p))
    (λ z. let e = unless-zero _ 5 z in judges-one 26 (carries Small (types_at c p)) (keeps-types c p e) (accepts-types c p e))

instructions-judged : (o : Profile) (k : ℕ) (c : List ℕ) (p : ℕ)
    → Judges (for_each (starts_from k c p) (λ q. item 6 (InstructionRules c q) ∷ type_items o c q)) (laid o k c p)
unfolding starts_from laid pick
instructions-judged o zero c p = judges-none
instructions-judged o (suc k) c p = go (instructions-judged o k c (after c p)) (ltb p (length c)) refl
  where
    go : Judges (for_each (starts_from k c (after c p)) (λ q. item 6 (InstructionRules c q) ∷ type_items o c q)) (laid o k c (after c p)) → (b : Bool) → ltb p (length c) ≡ b
        → Judges (for_each (starts_from (suc k) c p) (λ q. item 6 (InstructionRules c q) ∷ type_items o c q)) (laid o (suc k) c p)
    go ih true e = rw e (judges-both (instruction-judged o c p) (λ z. ih))
    go ih false e = rw e judges-none

-- an instruction that keeps its rules, under a profile that carries it
instruction-none : (o : Profile) (c : List ℕ) (p : ℕ) → InstructionRules c p → (o ≡ Small → NoWide c p) → instruction_refusal o c p ≡ 0
instruction-none o c p r n = carried_none o c p e (go o refl)
  where
    e : instruction_ok c p ≡ true
    e = accepts-instruction c p r

    go : (x : Profile) → o ≡ x → carries o (types_at c p) ≡ true
    go Full q = rw q
    go Small q = rw q (accepts-types c p (accepts-instruction c p r) (n q))

-- and the other way: what the small profile accepts names no such type
small-names : (c : List ℕ) (p : ℕ) → instruction_refusal Small c p ≡ 0 → NoWide c p
unfolding instruction_refusal
small-names c p z =
    let a = next-zero (unless (instruction_ok c p) 6) _ z in
    keeps-types c p (unless-zero _ 5 a.0) (unless-zero _ 26 a.1)

small-carried : (c : List ℕ) → laid Small (length c) c 0 ≡ 0 → (p : ℕ) → Start c p → NoWide c p
unfolding is_start
small-carried c l p s =
    small-names c p
    (each c (λ q. instruction_refusal Small c q ≡ 0) (λ k q. laid Small k c q ≡ 0) (λ k q h z. laid_both Small k c q h z) (length c) 0 p l (start_is c (laid-full Small (length c) c 0 l) s))

carried-all : (o : Profile) (c : List ℕ) → laid o (length c) c 0 ≡ 0 → Carried o c
carried-all Full c l e = full-small e
carried-all Small c l e = small-carried c l

module _ (o : Profile) (c : List ℕ) (r : Instructions c) (y : Carried o c) where
  -- the walk from a start, or from the end
  laid_none : (k p : ℕ) → (p < length c → Start c p) → laid o k c p ≡ 0
  unfolding laid
  laid_none zero p s = refl
  laid_none (suc k) p s = go (laid_none k (after c p)) (ltb p (length c)) refl
    where
      go : ((after c p < length c → Start c (after c p)) → laid o k c (after c p) ≡ 0) → (b : Bool) → ltb p (length c) ≡ b → laid o (suc k) c p ≡ 0
      go ih true e =
          let h : p < length c = ltb-true _ _ e in
          laid_one o k c p h ∙ next-none _ _ (instruction-none o c p (r p (s h)) (λ q. y q p (s h))) (ih (λ g. then (s h) g))
      go ih false e = laid_end o (suc k) c p (ltb-false _ _ e)

  laid-all : laid o (length c) c 0 ≡ 0
  laid-all = laid_none (length c) 0 first

-- ---- the targets and the last instruction, of code whose instructions are laid

module _ (c : List ℕ) (l : laid Full (length c) c 0 ≡ 0) where
  instructions : Instructions c
  instructions p s = keeps-instruction c p (each-ok c p l (start_is c l s))

  targets : all_from (target_ok c) (length c) c 0 ≡ true → Targets c
  targets a p t s g =
      let w = start_is c l s in
      let i = target_is c p g in
      subst (Start c) i.1
      (is-start c (target_at c p) (omega (arith, inside-code c p w)) (target-starts c p (each-passes (target_ok c) c p a w) i.0))

  target_right : Targets c → (p : ℕ) → Start c p → target_ok c p ≡ true
  unfolding target_ok pick
  target_right r p s = go (goes_to (kind_at c p)) refl
    where
      go : (b : Bool) → goes_to (kind_at c p) ≡ b → target_ok c p ≡ true
      go true e = rw e (start_is c l (r p (target_at c p) s (has-target c p e)))
      go false e = rw e

  targets-from : Targets c → (k p : ℕ) → (p < length c → Start c p) → all_from (target_ok c) k c p ≡ true
  unfolding all_from pick
  targets-from r zero p s = refl
  targets-from r (suc k) p s = go (targets-from r k (after c p)) (ltb p (length c)) refl
    where
      go : ((after c p < length c → Start c (after c p)) → all_from (target_ok c) k c (after c p) ≡ true) → (b : Bool) → ltb p (length c) ≡ b
          → all_from (target_ok c) (suc k) c p ≡ true
      go ih true e =
          let h : p < length c = ltb-true _ _ e in
          all_one (target_ok c) k c p h ∙ rw (target_right r p (s h)) (ih (λ g. then (s h) g))
      go ih false e = all_end (target_ok c) (suc k) c p (ltb-false _ _ e)

  targets-all : Targets c → all_from (target_ok c) (length c) c 0 ≡ true
  targets-all r = targets-from r (length c) 0 first

  last : ends (last_from (length c) c 0 0) ≡ true → Last c
  last a p s e =
      let i = end-is-last c p l (start_is c l s) (omega arith) in
      let h = ltb-true (last_from (length c) c 0 0) 2 a in
      is _ (byte c p) 0 inl (λ n. inr (inl (omega arith)))

  ending : {code : ℕ} → OneOf (0 ∷ 1 ∷ []) code → ends code ≡ true
  ending (inl e) = rw e
  ending (inr (inl e)) = rw e
  ending {code = code} (inr (inr x'')) = elim x'' [ ]

  -- `code` ends the code where nothing is left
  last-right : Last c → (k p code : ℕ) → length c ≤ p + k → p ≤ length c → (p < length c → Start c p) → (p ≡ length c → ends code ≡ true)
      → ends (last_from k c p code) ≡ true
  last-right r zero p code m i s e = ap ends (last_end 0 c p code (omega arith)) ∙ e (omega arith)
  last-right r (suc k) p code m i s e = go (last-right r k (after c p) (byte c p)) (ltb p (length c)) refl
    where
      go : (length c ≤ after c p + k → after c p ≤ length c → (after c p < length c → Start c (after c p)) → (after c p ≡ length c → ends (byte c p) ≡ true)
          → ends (last_from k c (after c p) (byte c p)) ≡ true)
          → (b : Bool) → ltb p (length c) ≡ b → ends (last_from (suc k) c p code) ≡ true
      go ih true f =
          let h : p < length c = ltb-true _ _ f in
          let v = whole c p (each-ok c p l (start_is c l (s h))) in
          ap ends (last_one k c p code h)
          ∙ ih (omega (arith, v.long)) (omega (arith, v.inside)) (λ g. then (s h) g) (λ g. ending (r p (s h) g))
      go ih false f =
          let h : length c ≤ p = ltb-false _ _ f in
          ap ends (last_end (suc k) c p code h) ∙ e (omega arith)

  last-all : Last c → ends (last_from (length c) c 0 0) ≡ true
  last-all r = last-right r (length c) 0 0 (omega arith) (omega arith) first (λ e. refl)

-- ---- all of it

pub code-judged : (o : Profile) (c : List ℕ) → Judges (code_items_for o c) (judge_code_for o c)
unfolding code_items_for judge_code_for
code-judged o c =
    judges-both (instructions-judged o (length c) c 0)
    (λ z. let l = laid-full o (length c) c 0 z in judges-both (judges-one 6 _ (targets c l) (targets-all c l)) (λ t. judges-one 6 _ (last c l) (last-all c l)))

pub code-in-order-for : (o : Profile) (c : List ℕ) → First (code_items_for o c) (judge_code_for o c)
code-in-order-for o c = judged (code-judged o c)

pub code-in-order : (c : List ℕ) → First (code_items c) (judge_code c)
code-in-order c = code-in-order-for Full c

-- accepted exactly if all rules are kept
pub well-formed : (o : Profile) (c : List ℕ) → judge_code_for o c ≡ 0 → WellFormedCodeFor o c
well-formed o c z =
    let j = found o c z in
    let l = laid-full o (length c) c 0 j.all_laid in
    record {
      instructions = instructions c l;
      carried = carried-all o c j.all_laid;
      targets = targets c l j.targets;
      last = last c l (lt-ltb _ _ j.last);
    }

pub accepted-code : (o : Profile) (c : List ℕ) → WellFormedCodeFor o c → judge_code_for o c ≡ 0
unfolding judge_code_for
accepted-code o c w =
    let z = laid-all o c w.instructions w.carried in
    let l = laid-full o (length c) c 0 z in
    next-none _ _ z (next-none _ _ (yes _ 7 (targets-all c l w.targets)) (yes _ 7 (last-all c l w.last)))

-- ---- number by number

pub record CodeExactly (c : List ℕ) : Type 0 where
  pub six : (Instructions c → ⊥) → judge_code c ≡ 6
  pub seven : Instructions c → (Targets c → Last c → ⊥) → judge_code c ≡ 7
  pub none : WellFormedCode c → judge_code c ≡ 0
  pub kept : judge_code c ≡ 0 → WellFormedCode c

laid-number : (k : ℕ) (c : List ℕ) (p : ℕ) → (laid Full k c p ≡ 0) ⊎ (laid Full k c p ≡ 6)
unfolding laid instruction_refusal unless next pick
laid-number zero c p = inl refl
laid-number (suc k) c p = go (laid-number k c (after c p)) (ltb p (length c)) refl (instruction_ok c p) refl
  where
    go : (laid Full k c (after c p) ≡ 0) ⊎ (laid Full k c (after c p) ≡ 6) → (b : Bool) → ltb p (length c) ≡ b → (o : Bool) → instruction_ok c p ≡ o
        → (laid Full (suc k) c p ≡ 0) ⊎ (laid Full (suc k) c p ≡ 6)
    go ih true e true f = rw (e, f) ih
    go ih true e false f = inr (rw (e, f))
    go ih false e o f = inl (rw e)

pub code-exactly : (c : List ℕ) → CodeExactly c
unfolding judge_code_for unless next
code-exactly c = record { six = six; seven = seven; none = accepted-code Full c; kept = well-formed Full c }
  where
    six : (Instructions c → ⊥) → judge_code c ≡ 6
    six n = go (laid-number (length c) c 0)
      where
        go : (laid Full (length c) c 0 ≡ 0) ⊎ (laid Full (length c) c 0 ≡ 6) → judge_code c ≡ 6
        go (inl e) = absurd (n (instructions c e))
        go (inr e) = rw e

    seven : Instructions c → (Targets c → Last c → ⊥) → judge_code c ≡ 7
    seven i n = go (laid-all Full c i full-small) (all_from (target_ok c) (length c) c 0) refl (ends (last_from (length c) c 0 0)) refl
      where
        go : laid Full (length c) c 0 ≡ 0 → (b : Bool) → all_from (target_ok c) (length c) c 0 ≡ b → (o : Bool) → ends (last_from (length c) c 0 0) ≡ o → judge_code c ≡ 7
        go l true e true f = absurd (n (targets c l e) (last c l f))
        go l true e false f = rw (l, e, f)
        go l false e o f = rw (l, e)
