-- The judging of a call: what each refusal is, and what is known where there is none. In order: trace and state; the order; loading, with lent memory;
-- the call, and the number of each call; a call that is not refused; the answers. Assumes nothing.
use mathlib.Core.Path.{◌≡◌, refl, sym, ap, ap₂, ◌∙◌}
use mathlib.Core.Logic.{◌≢◌}
use mathlib.Core.Bool.{Bool, true, false}
use mathlib.Core.List.{List, [], ◌∷◌}
use Prim.Native.Nat.{ℕ, zero, suc, ◌+◌, ◌≤◌, ◌<◌}
use native.Mathlib.Omega.{arith}
use native.Mathlib.Numerals.{add-one}
use borrow.Author.Tests.{lt-ltb, le-ltb, eq-eqb, ne_eqb, ltb-true, eqb-true, le-leb}
use lib.Dec.{ltb, leb}
use lib.ListN.{length, get_or, drop}
use lib.Seq.{drop-cons, drop-length}
use Rattle.std.specs.Prelude.{Result, Ok, Err, Some, None}
use Rattle.std.specs.Result.{IfOk, IfErr}
use Rattle.verdict.specs.Verdict.{both, next, unless}
use Rattle.verdict.specs.Refusals.{number_of, refusal_of, refused_number, known, where_accepted}
use Rattle.verdict.specs.declared.Refusal.{Refusal}
use Rattle.verdict.specs.declared.Refused.{Refused}
use Rattle.verdict.proofs.Verdict.{skip, stop, yes, no, pick_true, pick-false, next-none, next-zero, unless-zero, both_true, both-not, absurd-bool}
use Rattle.verdict.proofs.Refusals.{refused, known-accepted}
use Rattle.memory.specs.Memory.{total}
use Rattle.records.specs.File.{cores}
use Rattle.records.proofs.Laws.{both-alone}
use Rattle.taskset.specs.declared.Layout.{Layout}
use Rattle.code.specs.declared.Profile.{Profile}
use Rattle.code.specs.declared.Profile.TheVariants.{Full}
use Rattle.taskset.specs.Judge.{judge_for, judge}
use Rattle.taskset.specs.Layout.{layout_of, load_of, loaded_as}
use Rattle.taskset.specs.Trace.{trace_refusal}
use Rattle.taskset.specs.Task.{sizes_of}
use Rattle.taskset.specs.Starts.{start_shared, start_buffer}
use Rattle.taskset.proofs.Accepted.{length-buffer, length-shared}
use Rattle.taskset.proofs.Loading.{file-judged, file-accepted, file-laid}
use Rattle.taskset.proofs.Narrowed.{any-is-full}
use Rattle.states.specs.declared.Held.{Held}
use Rattle.states.specs.declared.CoreTask.{CoreTask}
use Rattle.states.specs.Fit.{state_refusal}
use Rattle.states.specs.Preparing.{held_refusal}
use Rattle.states.specs.Tasks.{tasks_of}
use Rattle.runner.specs.declared.RunAnswer.{RunAnswer}
use Rattle.runner.specs.Runs.{all_below, Left, left_as, ran_call}
use Rattle.machine.specs.declared.judging.Judgement.{Judgement}
use Rattle.machine.specs.Judging.{lent_refusal, LaidOut, LentTo, judged_number, JudgedAs, first_run}
use Rattle.machine.specs.Calls.{lent_fits, set_refusal, call_refusal, answer_of, table_of, fresh_refusal_for, fresh_refusal, fresh_call_for, fresh_call, run_refusal, run_call, fresh_left, next_refusal}

-- ---- trace and state

module _ (f t : List ℕ) (h : Held) where
  -- the two parts of a held refusal
  pub held_none : held_refusal f t h ≡ 0 → (trace_refusal f t ≡ 0) × (state_refusal f t h ≡ 0)
  unfolding held_refusal
  held_none e = next-zero _ _ e

  -- what is prepared where nothing is refused
  pub prepared-tasks : (tasks : List CoreTask) → (0 ≡ held_refusal f t h) × (Some tasks ≡ where_accepted (trace_refusal f t) (tasks_of f t)) → tasks ≡ tasks_of f t
  prepared-tasks tasks e = known-accepted _ _ tasks (held_none (sym e.0)).0 e.1

-- ---- the order

-- a bound of the larger of two numbers is a bound of both
both_below : (a b m n : ℕ) (r : Bool) → (m < n → (a < n) × (b < n)) → (a < n → b < n → m < n) → both (ltb m n) r ≡ both (ltb a n) (both (ltb b n) r)
both_below a b m n r under over = go (ltb m n) refl
  where
    above : (x y : Bool) → ltb a n ≡ x → ltb b n ≡ y → ltb m n ≡ false → false ≡ both (ltb a n) (both (ltb b n) r)
    above true true p q e = absurd-bool (sym e ∙ lt-ltb m n (over (ltb-true a n p) (ltb-true b n q)))
    above true false p q e = rw (p, q)
    above false y p q e = rw p

    go : (t : Bool) → ltb m n ≡ t → both (ltb m n) r ≡ both (ltb a n) (both (ltb b n) r)
    go true e = let h = under (ltb-true m n e) in rw (e, lt-ltb a n h.0, lt-ltb b n h.1)
    go false e = rw e (above (ltb a n) (ltb b n) refl refl e)

-- of an order that names a core, the largest of no bytes is 0
pub below_none : (n : ℕ) (order : List ℕ) → 0 < length order → both (ltb 0 n) (all_below n order) ≡ all_below n order
below_none n [] h = absurd (let y : ⊥ = omega arith in y)
below_none zero (k ∷ ks) h = rw (le-ltb k 0 (omega arith))
below_none (suc n) (k ∷ ks) h = rw (lt-ltb 0 (suc n) (omega arith))

-- one more byte, b, with a the largest before it and m the largest with it
pub below_more : (n : ℕ) (order : List ℕ) (i a m : ℕ) → i < length order
    → (m < n → (a < n) × (get_or order i 0 < n)) → (a < n → get_or order i 0 < n → m < n)
    → both (ltb m n) (all_below n (drop (i + 1) order)) ≡ both (ltb a n) (all_below n (drop i order))
below_more n order i a m h under over =
    both_below a (get_or order i 0) m n (all_below n (drop (i + 1) order)) under over
    ∙ ap (both (ltb a n)) (rw (drop-cons order i 0 h) (ap (λ (k : ℕ). both (ltb (get_or order i 0) n) (all_below n (drop k order))) (add-one i)))

pub below-done : (n : ℕ) (order : List ℕ) (i : ℕ) → length order ≤ i → i ≤ length order → all_below n (drop i order) ≡ true
below-done n order i h k = let e : i ≡ length order = omega arith in rw (e, drop-length)

pub below_all : (n : ℕ) (order : List ℕ) (i most : ℕ) → length order ≤ i → i ≤ length order → both (ltb most n) (all_below n (drop i order)) ≡ ltb most n
below_all n order i most h k = ap (both (ltb most n)) (below-done n order i h k) ∙ both-alone (ltb most n)

-- with n from the loaded layout
pub below-laid : (f order : List ℕ) (l : Layout) → l ≡ layout_of f → (b : Bool) → b ≡ all_below l.cores order → all_below (cores f) order ≡ b
below-laid f order l e b q = sym (q ∙ ap (λ (x : Layout). all_below x.cores order) e)

-- ---- loading, with lent memory

-- a chain of three is the same however it is grouped
pub next-next : (a b c : ℕ) → next (next a b) c ≡ next a (next b c)
unfolding next
next-next zero b c = refl
next-next (suc a) b c = refl

next_last : (a : ℕ) → next a 0 ≡ a
unfolding next
next_last zero = refl
next_last (suc a) = refl

module _ (o : Profile) (f : List ℕ) (buffer shared : ℕ) (room : Bool) where
  -- forward: of an accepted file
  module _ (z : judge_for o f ≡ 0) where
    pub lent-held : lent_fits f buffer shared ≡ true → room ≡ true → 0 ≡ lent_refusal o f buffer shared room
    unfolding lent_refusal
    lent-held a b = sym (next-none _ _ z (yes _ 21 (rw (a, b) refl)))

    lent-short : both (lent_fits f buffer shared) room ≡ false → 21 ≡ lent_refusal o f buffer shared room
    unfolding lent_refusal
    lent-short a = skip z (sym (no _ 21 a))

    pub lent-unfit : lent_fits f buffer shared ≡ false → 21 ≡ lent_refusal o f buffer shared room
    lent-unfit a = lent-short (rw a refl)

    pub lent-full : room ≡ false → 21 ≡ lent_refusal o f buffer shared room
    lent-full a = lent-short (both-not (lent_fits f buffer shared) room (λ p q. absurd-bool (sym a ∙ q)))

  -- backward
  module _ (z : 0 ≡ lent_refusal o f buffer shared room) where
    lent-carried : judge_for o f ≡ 0
    unfolding lent_refusal
    lent-carried = (next-zero _ _ (sym z)).0

    lent-accepted : judge f ≡ 0
    lent-accepted = any-is-full o f lent-carried

    pub lent_fits_lem : lent_fits f buffer shared ≡ true
    unfolding lent_refusal
    lent_fits_lem = (both_true _ _ (unless-zero _ 20 (next-zero _ _ (sym z)).1)).0

  pub lent_laid : (r : Result Layout Refusal) → (refusal_of r ≡ lent_refusal o f buffer shared room) × IfOk r (λ l. l ≡ layout_of f) → LaidOut f r
  lent_laid (Ok l) e = (lent-accepted e.0, e.1)
  lent_laid (Err r) e = tt

  -- of an answer whose refusal has what is known beside it
  pub lent_laid-known : (r : Result Layout (Refused Layout)) → (refused_number r ≡ lent_refusal o f buffer shared room) × (known r ≡ where_accepted (judge_for o f) (layout_of f)) → LaidOut f r
  lent_laid-known (Ok l) e = lent_laid (Ok l) (e.0, known-accepted _ _ l (lent-carried e.0) e.1)
  lent_laid-known (Err r) e = tt

pub lent-to : (o : Profile) (f d sh : List ℕ) (room : Bool) (l : Layout) → (0 ≡ lent_refusal o f (length d) (length sh) room) × (l ≡ layout_of f) → LentTo f l d sh
lent-to o f d sh room l e =
    record { accepted = lent-accepted o f (length d) (length sh) room e.0; laid = e.1; fits = lent_fits_lem o f (length d) (length sh) room e.0 }

pub lent-to-known : (o : Profile) (f d sh : List ℕ) (room : Bool) (l : Layout) → (0 ≡ lent_refusal o f (length d) (length sh) room) × (Some l ≡ where_accepted (judge_for o f) (layout_of f)) → LentTo f l d sh
lent-to-known o f d sh room l e = lent-to o f d sh room l (e.0, known-accepted _ _ l (lent-carried o f (length d) (length sh) room e.0) e.1)

-- a file that is loaded, and no memory lent
pub loaded-laid : (f : List ℕ) (r : Result Layout Refusal) → loaded_as r ≡ load_of f → LaidOut f r
loaded-laid f (Ok l) e = (file-accepted f _ e refl, file-laid f _ e refl)
loaded-laid f (Err r) e = tt

loaded-number : (f : List ℕ) (r : Result Layout Refusal) → loaded_as r ≡ load_of f → refusal_of r ≡ judge f
loaded-number f (Ok l) e = file-judged f _ e
loaded-number f (Err r) e = file-judged f _ e

-- ---- the call, after loading

-- the number of an answer, by that of its error
abbrev pub number_in : {A E : Type 0} → (E → ℕ) → Result A E → ℕ
number_in number (Ok a) = 0
number_in number (Err e) = number e

-- Whatever numbers a caller's errors have, if what a refusal gives has the refusal's, and loading's error has one above 0: the call has the number that is
-- judged.
module _ {E : Type 0} (gives : Refusal → E → Type 0) (number : E → ℕ) (told : (r : Refusal) (e : E) → gives r e → number e ≡ number_of r) where
  pub judged-number : (f t : List ℕ) (loaded : Result Layout E) (h : Held) (order : List ℕ) (x : Result Judgement E) → IfErr loaded (λ e. number e ≢ 0) → JudgedAs gives f t loaded h order x
      → (number_in number x ≡ judged_number f t (number_in number loaded) h order) × IfOk x (λ j. (j.layout ≡ layout_of f) × (j.tasks ≡ tasks_of f t))
  unfolding judged_number
  judged-number f t (Ok l) h order (Ok j) some e = (e.granted.0, (e.granted.1, e.granted.2))
  judged-number f t (Ok l) h order (Err y) some e = (told e.number.0 y e.number.2 ∙ e.number.1, tt)
  judged-number f t (Err y) h order x some e = rw e.handed (stop _ refl some, tt)

-- refusals as they are
pub judged-refusal : (f t : List ℕ) (loaded : Result Layout Refusal) (h : Held) (order : List ℕ) (x : Result Judgement Refusal) → JudgedAs (λ r e. e ≡ r) f t loaded h order x
    → (number_in number_of x ≡ judged_number f t (refusal_of loaded) h order) × IfOk x (λ j. (j.layout ≡ layout_of f) × (j.tasks ≡ tasks_of f t))
judged-refusal f t (Ok l) h order x e = judged-number (λ r y. y ≡ r) number_of (λ r y p. ap number_of p) f t (Ok l) h order x tt e
judged-refusal f t (Err r) h order x e = judged-number (λ r y. y ≡ r) number_of (λ r y p. ap number_of p) f t (Err r) h order x (refused r) e

-- refusals with what is known beside them
pub judged-refused : (f t : List ℕ) (loaded : Result Layout (Refused Layout)) (h : Held) (order : List ℕ) (x : Result Judgement (Refused Layout)) → JudgedAs (λ r e. e ≡ record { refusal = r; known = None }) f t loaded h order x
    → (number_in (λ (e : Refused Layout). number_of e.refusal) x ≡ judged_number f t (refused_number loaded) h order) × IfOk x (λ j. (j.layout ≡ layout_of f) × (j.tasks ≡ tasks_of f t))
judged-refused f t (Ok l) h order x e = judged-number (λ r y. y ≡ record { refusal = r; known = None }) (λ y. number_of y.refusal) (λ r y p. ap (λ (z : Refused Layout). number_of z.refusal) p) f t (Ok l) h order x tt e
judged-refused f t (Err r) h order x e = judged-number (λ r y. y ≡ record { refusal = r; known = None }) (λ y. number_of y.refusal) (λ r y p. ap (λ (z : Refused Layout). number_of z.refusal) p) f t (Err r) h order x (refused r.refusal) e

module _ (f t : List ℕ) (loaded : ℕ) (h : Held) (order : List ℕ) where
  abbrev number : ℕ
  number = judged_number f t loaded h order

  module _ (z : loaded ≡ 0) where
    module _ (y : held_refusal f t h ≡ 0) where
      pub judge-unnamed : all_below (cores f) order ≡ false → 20 ≡ number
      unfolding judged_number
      judge-unnamed e = skip z (skip y (sym (no _ 20 e)))

      pub judge-none : all_below (cores f) order ≡ true → number ≡ 0
      unfolding judged_number
      judge-none e = next-none _ _ z (next-none _ _ y (yes _ 20 e))

-- the number of each call
module _ (f t : List ℕ) (h : Held) where
  pub set-number : (r : Result Layout Refusal) → loaded_as r ≡ load_of f → judged_number f t (refusal_of r) h [] ≡ set_refusal f t h
  unfolding judged_number set_refusal unless
  set-number r e = ap₂ next (loaded-number f r e) (next_last (held_refusal f t h))

  pub next-number : (given : ℕ) (r : Result Layout Refusal) → loaded_as r ≡ load_of f → judged_number f t (refusal_of r) h (given ∷ []) ≡ next_refusal f t h given
  unfolding judged_number next_refusal
  next-number given r e = ap₂ (λ (n : ℕ) (b : Bool). next n (next (held_refusal f t h) (unless b 20))) (loaded-number f r e) (both-alone (ltb given (cores f)))

  pub run-number : (d sh order list : List ℕ) (n : ℕ) → n ≡ lent_refusal Full f (length d) (length sh) (leb (length order) (length list))
      → judged_number f t n h order ≡ run_refusal f t h d sh order list
  unfolding judged_number run_refusal call_refusal lent_refusal
  run-number d sh order list n e = ap (λ (r : ℕ). next r (next (held_refusal f t h) (unless (all_below (cores f) order) 20))) e ∙ next-next _ _ _

-- ---- a call that is not refused

module _ (f t : List ℕ) (h : Held) (buffer shared : ℕ) (room named : Bool) where
  pub refuse-none : judge f ≡ 0 → lent_fits f buffer shared ≡ true → room ≡ true → held_refusal f t h ≡ 0 → named ≡ true → call_refusal f t h buffer shared room named ≡ 0
  unfolding call_refusal
  refuse-none z a b y e = next-none _ _ z (next-none _ _ (yes _ 21 (rw (a, b))) (next-none _ _ y (yes _ 20 e)))

-- what a call knows that is not refused
pub record Granted (f t : List ℕ) (h : Held) (buffer shared : ℕ) (room named : Bool) : Type 0 where
  pub accepted : judge f ≡ 0
  pub sound : trace_refusal f t ≡ 0
  pub state : state_refusal f t h ≡ 0
  pub memory : buffer ≡ total (sizes_of f)
  pub shared-memory : shared ≡ 1024
  pub listed : room ≡ true
  pub below : named ≡ true

pub granted : (f t : List ℕ) (h : Held) (buffer shared : ℕ) (room named : Bool) → call_refusal f t h buffer shared room named ≡ 0 → Granted f t h buffer shared room named
unfolding call_refusal lent_fits
granted f t h buffer shared room named e =
    let a = next-zero _ _ e in
    let b = next-zero _ _ a.1 in
    let c = next-zero _ _ b.1 in
    let fits = both_true _ _ (unless-zero _ 20 b.0) in
    let sizes = both_true _ _ fits.0 in
    record {
      accepted = a.0;
      sound = (held_none f t h c.0).0;
      state = (held_none f t h c.0).1;
      memory = eqb-true _ _ sizes.0;
      shared-memory = eqb-true _ _ sizes.1;
      listed = fits.1;
      below = unless-zero _ 19 c.1;
    }

-- ---- the answers

module _ (f t : List ℕ) (h : Held) (d sh order list : List ℕ) where
  pub run-refused : {r : ℕ} (x : RunAnswer) → r ≡ run_refusal f t h d sh order list → r ≢ 0 → x ≡ answer_of r h → left_as x d sh list ≡ run_call f t h d sh order list
  unfolding run_call
  run-refused x e n q =
      ap (λ (y : RunAnswer). left_as y d sh list) (q ∙ ap (λ (m : ℕ). answer_of m h) e)
      ∙ sym (pick-false _ _ _ (ne_eqb _ _ (λ w. n (e ∙ w))))

  pub run-granted : (x : Left) → run_refusal f t h d sh order list ≡ 0 → x ≡ ran_call f t h d sh order list → x ≡ run_call f t h d sh order list
  unfolding run_call
  run-granted x e q = q ∙ sym (pick_true _ _ _ (eq-eqb _ _ e))

-- lent memory that fits has its sizes
pub lent-sizes : (f : List ℕ) (buffer shared : ℕ) → lent_fits f buffer shared ≡ true → (buffer ≡ total (sizes_of f)) × (shared ≡ 1024)
unfolding lent_fits
lent-sizes f buffer shared e = let b = both_true _ _ e in (eqb-true _ _ b.0, eqb-true _ _ b.1)

-- the fresh state, under a profile
module _ (o : Profile) (f : List ℕ) (d sh : List ℕ) where
  pub fresh-number : (n : ℕ) → n ≡ lent_refusal o f (length d) (length sh) true → n ≡ fresh_refusal_for o f (length d) (length sh)
  unfolding lent_refusal
  fresh-number n e = e ∙ ap (λ (b : Bool). next (judge_for o f) (unless b 21)) (both-alone (lent_fits f (length d) (length sh)))

  pub fresh-none-for : judge_for o f ≡ 0 → lent_fits f (length d) (length sh) ≡ true → fresh_refusal_for o f (length d) (length sh) ≡ 0
  fresh-none-for z e = next-none _ _ z (yes _ 21 e)

  pub fresh-refused-for : {r : ℕ} (x : RunAnswer) → r ≡ fresh_refusal_for o f (length d) (length sh) → r ≢ 0 → x ≡ answer_of r (table_of 0 0) → left_as x d sh [] ≡ fresh_call_for o f d sh
  unfolding fresh_call_for
  fresh-refused-for x e n q =
      ap (λ (y : RunAnswer). left_as y d sh []) (q ∙ ap (λ (m : ℕ). answer_of m (table_of 0 0)) e)
      ∙ sym (pick-false _ _ _ (ne_eqb _ _ (λ w. n (e ∙ w))))

  pub fresh-granted-for : (x : RunAnswer) (d' sh' : List ℕ) → fresh_refusal_for o f (length d) (length sh) ≡ 0 → x ≡ answer_of 0 (table_of (cores f) 4) → d' ≡ start_buffer f → sh' ≡ start_shared f
      → left_as x d' sh' [] ≡ fresh_call_for o f d sh
  unfolding fresh_call_for
  fresh-granted-for x d' sh' e q a b = ap₂ (λ (y : RunAnswer) (l : List ℕ). left_as y l sh' []) q a ∙ ap (λ (l : List ℕ). left_as (answer_of 0 (table_of (cores f) 4)) (start_buffer f) l []) b ∙ sym (pick_true _ _ _ (eq-eqb _ _ e))

-- under the full one
pub fresh-none : (f d sh : List ℕ) → judge f ≡ 0 → lent_fits f (length d) (length sh) ≡ true → fresh_refusal f (length d) (length sh) ≡ 0
unfolding fresh_refusal
fresh-none f d sh z e = fresh-none-for Full f d sh z e

pub fresh-left : (f d sh : List ℕ) → judge f ≡ 0 → lent_fits f (length d) (length sh) ≡ true → fresh_call f d sh ≡ left_as (answer_of 0 (table_of (cores f) 4)) (start_buffer f) (start_shared f) []
unfolding fresh_call
fresh-left f d sh z e = pick_true _ _ _ (eq-eqb _ _ (fresh-none f d sh z e))

-- the memories that it leaves have their sizes
pub start_fits : (f : List ℕ) → lent_fits f (length (start_buffer f)) (length (start_shared f)) ≡ true
unfolding lent_fits
start_fits f = rw (length-buffer f, length-shared f, eq-eqb (total (sizes_of f)) (total (sizes_of f)) refl) refl

-- a run from there: nothing is refused before trace and state
module _ (f t order list : List ℕ) (x : RunAnswer) (d sh : List ℕ) (made : left_as x d sh [] ≡ left_as (answer_of 0 (table_of (cores f) 4)) (start_buffer f) (start_shared f) []) where
  pub first-call : run_call f t x.state d sh order list ≡ first_run f t order list
  unfolding first_run
  first-call = ap (λ (y : Left). run_call f t y.answer.state y.memory y.shared order list) made

  fits : lent_fits f (length d) (length sh) ≡ true
  fits = ap (λ (y : Left). lent_fits f (length y.memory) (length y.shared)) made ∙ start_fits f

  pub first-number : judge f ≡ 0 → length order ≤ length list → judged_number f t 0 x.state order ≡ run_refusal f t x.state d sh order list
  unfolding judged_number run_refusal call_refusal
  first-number z b = skip z (skip (yes _ 21 (rw (fits, le-leb (length order) (length list) b) refl)) (sym (skip refl refl)))

pub fresh-full : (f d sh : List ℕ) → fresh_call_for Full f d sh ≡ fresh_call f d sh
unfolding fresh_call_for fresh_call fresh_refusal
fresh-full f d sh = refl

-- where nothing is refused, the profile makes no difference
pub fresh-any : (o : Profile) (f d sh : List ℕ) → judge f ≡ 0 → lent_fits f (length d) (length sh) ≡ true → fresh_refusal_for o f (length d) (length sh) ≡ 0 → fresh_call f d sh ≡ fresh_call_for o f d sh
unfolding fresh_call_for
fresh-any o f d sh w e z = sym (fresh-full f d sh) ∙ ap (λ (r : ℕ). fresh_left r f d sh) (fresh-none-for Full f d sh w e ∙ sym z)
