-- A core executing by itself: steps of an order that names it alone, carried on, are steps of the core; one stretch after another. Assumes nothing.
use mathlib.Core.Path.{◌≡◌, refl, sym, ap, ap₂, ◌∙◌, subst}
use mathlib.Core.Bool.{true}
use mathlib.Core.List.{List, [], ◌∷◌, ◌++◌}
use Prim.Native.Nat.{ℕ, zero, suc, ◌+◌, ◌-◌, ◌≤◌, ◌<◌}
use native.Mathlib.Nat.{zero-add, le_of_suc-le-suc}
use native.Mathlib.Decide.{ℕ_discrete}
use native.Mathlib.Omega.{arith}
use borrow.Author.Tests.{lt-ltb, eq-eqb, ne_eqb}
use lib.Dec.{eqb}
use lib.ListN.{length, get_or, set, take, drop, replicate, length-append, length-replicate, get_or-replicate, replicate-append-replicate, take-append-drop}
use lib.Seq.{get_or-set_same, set-set, set-get_or}
use Rattle.verdict.specs.Verdict.{pick}
use Rattle.verdict.proofs.Verdict.{pick_true, pick-false}
use Rattle.protocol.specs.declared.Registers.{Registers}
use Rattle.protocol.specs.State.{State, untaken}
use Rattle.protocol.specs.Step.{run, Taking, takings}
use Rattle.protocol.proofs.Steps.{run-append, takings-append}
use Rattle.exchange.specs.declared.Cursor.{Cursor}
use Rattle.records.specs.File.{cores}
use Rattle.states.specs.Task.{task_of}
use Rattle.states.specs.Machine.{no_registers, core_in, state_in}
use Rattle.states.specs.Fit.{FitCore}
use Rattle.states.specs.Set.{AcceptedSet}
use Rattle.order.specs.Order.{steps_on}
use Rattle.runner.specs.Running.{RunningAt, RunStands, CarriesRun}
use Rattle.runner.specs.Executing.{Standing, ExecutionGiven, Stretch, Executes}
use Rattle.runner.proofs.Running.{core-in}
use Rattle.runner.proofs.Carrying.{stands}

-- ---- an order that names core k alone

pub take-alone : (n i k : ℕ) → i ≤ n → take i (replicate n k) ≡ replicate i k
take-alone n zero k h = refl
take-alone zero (suc i) k h = absurd (let z : ⊥ = omega arith in z)
take-alone (suc n) (suc i) k h = ap (λ (l : List ℕ). k ∷ l) (take-alone n i k (le_of_suc-le-suc h))

pub steps-alone : (n k : ℕ) → 0 < n → steps_on (replicate n k) 0 k ≡ true
steps-alone n k h = rw (lt-ltb 0 (length (replicate n k)) (rw (length-replicate {A = ℕ} n k) h), eq-eqb (get_or (replicate n k) 0 0) k (get_or-replicate n 0 k 0 h))

no-taking : (xs ys : List Taking) → length (xs ++ ys) ≡ length ys → xs ≡ []
no-taking [] ys e = refl
no-taking (x ∷ xs) ys e = absurd (let z : ⊥ = omega (arith, length-append (x ∷ xs) ys) in z)

-- ---- a run of such an order

abbrev nowhere : Cursor
nowhere = record { «record» = 0; byte = 0 }

module _ (f t order : List ℕ) (k : ℕ) (r : Registers) (cs : List Registers) (places offsets d sh : List ℕ) (ok : AcceptedSet f t) (e : get_or cs k no_registers ≡ r) (s : Standing f t cs places offsets d sh) where
  starting : RunningAt f t order [] (state_in f cs places offsets untaken d sh) cs places offsets 0 cs places offsets untaken 0 d sh [] nowhere
  starting = record {
    running = record {
      within = omega arith;
      reached = refl;
      rest = refl;
      listed = refl;
      counted = zero-add (length (takings (task_of f t) order (state_in f cs places offsets untaken d sh)));
      room = omega arith;
      fit = s.fit;
      four = s.four;
      entries = s.entries;
      buffer = s.buffer;
      list_length = refl;
      spare = λ j g. (refl, refl);
    };
    aimed = λ j g h. absurd (let z : ⊥ = omega arith in z);
  }

  stand-alone : k < cores f → RunStands f t order 0 k r places offsets d
  stand-alone ik = subst (λ (u : Registers). RunStands f t order 0 k u places offsets d) e (stands ok starting ik)

  module _ (n : ℕ) {i : ℕ} {r' : Registers} {places' offsets' d' : List ℕ} (alone : order ≡ replicate n k) (w : CarriesRun f t order k 0 r places offsets d i r' places' offsets' d') where
    carried : RunningAt f t order [] (state_in f cs places offsets untaken d sh) cs places offsets i (set cs k r') places' offsets' untaken 0 d' sh [] nowhere
    carried = w [] (state_in f cs places offsets untaken d sh) cs places offsets cs untaken 0 sh [] nowhere e starting

    first : take i order ≡ replicate i k
    first = ap (take i) alone ∙ take-alone n i k (subst (λ (m : ℕ). i ≤ m) (ap length alone ∙ length-replicate {A = ℕ} n k) carried.running.within)

    pub stretched : Stretch f t k cs places offsets d sh r' places' offsets' d'
    stretched = record {
      steps = i;
      moved = ap (λ (ks : List ℕ). run (task_of f t) ks (state_in f cs places offsets untaken d sh)) (sym first) ∙ carried.running.reached;
      none-taken = ap (λ (ks : List ℕ). takings (task_of f t) ks (state_in f cs places offsets untaken d sh)) (sym first) ∙ no-taking (takings (task_of f t) (take i order) (state_in f cs places offsets untaken d sh)) (takings (task_of f t) (drop i order) after) counts;
      stands = record { four = carried.running.four; entries = carried.running.entries; buffer = carried.running.buffer; fit = carried.running.fit };
      spare = λ j g. (carried.running.spare j g).1;
    }
      where
        after : State
        after = state_in f (set cs k r') places' offsets' untaken d' sh

        counts : length (takings (task_of f t) (take i order) (state_in f cs places offsets untaken d sh) ++ takings (task_of f t) (drop i order) after) ≡ length (takings (task_of f t) (drop i order) after)
        counts =
            ap (λ (z : State). length (takings (task_of f t) (take i order) (state_in f cs places offsets untaken d sh) ++ takings (task_of f t) (drop i order) z)) (sym carried.running.reached)
            ∙ ap length (sym (takings-append (task_of f t) (take i order) (drop i order) (state_in f cs places offsets untaken d sh)))
            ∙ ap (λ (ks : List ℕ). length (takings (task_of f t) ks (state_in f cs places offsets untaken d sh))) (take-append-drop i order)
            ∙ sym carried.running.counted
            ∙ zero-add _

-- ---- one stretch after another

module _ {f t : List ℕ} {k : ℕ} {r : Registers} {places offsets d : List ℕ} where
  -- no step yet
  pub executes-none : Executes f t k r places offsets d r places offsets d
  executes-none cs sh e s =
      let same : set cs k r ≡ cs = ap (set cs k) (sym e) ∙ set-get_or cs k no_registers in
      record {
        steps = 0;
        moved = ap (λ (l : List Registers). state_in f l places offsets untaken d sh) (sym same);
        none-taken = refl;
        stands = subst (λ (l : List Registers). Standing f t l places offsets d sh) (sym same) s;
        spare = λ j g. refl;
      }

  module _ {r' r'' : Registers} {places' offsets' d' places'' offsets'' d'' : List ℕ} where
    pub executes-on : AcceptedSet f t → k < cores f → Executes f t k r places offsets d r' places' offsets' d' → Executes f t k r' places' offsets' d' r'' places'' offsets'' d''
        → Executes f t k r places offsets d r'' places'' offsets'' d''
    executes-on ok ik a b cs sh e s =
        let x = a cs sh e s in
        let y = b (set cs k r') sh (get_or-set_same cs k r' no_registers (omega (arith, ok.few, s.four))) x.stands in
        let both = sym (replicate-append-replicate x.steps y.steps k) in
        let twice : set (set cs k r') k r'' ≡ set cs k r'' = set-set cs k r' r'' in
        record {
          steps = x.steps + y.steps;
          moved = ap (λ (ks : List ℕ). run (task_of f t) ks (state_in f cs places offsets untaken d sh)) both
              ∙ run-append (task_of f t) (replicate x.steps k) (replicate y.steps k) (state_in f cs places offsets untaken d sh)
              ∙ ap (run (task_of f t) (replicate y.steps k)) x.moved
              ∙ y.moved
              ∙ ap (λ (l : List Registers). state_in f l places'' offsets'' untaken d'' sh) twice;
          none-taken = ap (λ (ks : List ℕ). takings (task_of f t) ks (state_in f cs places offsets untaken d sh)) both
              ∙ takings-append (task_of f t) (replicate x.steps k) (replicate y.steps k) (state_in f cs places offsets untaken d sh)
              ∙ ap₂ (λ (l m : List Taking). l ++ m) x.none-taken (ap (takings (task_of f t) (replicate y.steps k)) x.moved ∙ y.none-taken);
          stands = subst (λ (l : List Registers). Standing f t l places'' offsets'' d'' sh) twice y.stands;
          spare = λ j g. y.spare j g ∙ x.spare j g;
        }

  -- the state that the function was given, after a stretch
  pub executing-on : {r' : Registers} {places' offsets' d' : List ℕ} → ExecutionGiven f t k r places offsets d → Executes f t k r places offsets d r' places' offsets' d' → ExecutionGiven f t k r' places' offsets' d'
  executing-on {r'} x w =
      let y = w x.cs x.sh x.here x.stands in
      record {
        accepted = x.accepted;
        known = x.known;
        cs = set x.cs k r';
        sh = x.sh;
        here = get_or-set_same x.cs k r' no_registers (omega (arith, x.accepted.few, x.known, x.stands.four));
        stands = y.stands;
      }

  pub executing-length : {r' : Registers} {places' offsets' d' : List ℕ} → ExecutionGiven f t k r places offsets d → Executes f t k r places offsets d r' places' offsets' d' → length d' ≡ length d
  executing-length x w = (w x.cs x.sh x.here x.stands).stands.buffer ∙ sym x.stands.buffer

  pub executing-count : ExecutionGiven f t k r places offsets d → r.count ≤ 65535
  executing-count x =
      let c : FitCore f t k (core_in f x.cs places offsets d k) = subst (FitCore f t k) (core-in f x.cs places offsets untaken d x.sh k x.known) (x.stands.fit.each k x.known) in
      let n : (get_or x.cs k no_registers).count ≡ r.count = ap (λ (u : Registers). u.count) x.here in
      omega (arith, c.counts, (x.accepted.limits k x.known).1)

-- an order that names core k alone carries every such state on
pub executes-alone : {f t order : List ℕ} {k i : ℕ} (n : ℕ) {r r' : Registers} {places offsets d places' offsets' d' : List ℕ} → AcceptedSet f t → order ≡ replicate n k
    → CarriesRun f t order k 0 r places offsets d i r' places' offsets' d' → Executes f t k r places offsets d r' places' offsets' d'
executes-alone {f} {t} {order} {k} n {r} {places = places} {offsets = offsets} {d = d} ok e w cs sh here s = stretched f t order k r cs places offsets d sh ok here s n e w

pub standing-alone : {f t : List ℕ} (order : List ℕ) {k : ℕ} {r : Registers} {places offsets d : List ℕ} → ExecutionGiven f t k r places offsets d → RunStands f t order 0 k r places offsets d
standing-alone {f} {t} order {k} {r} {places} {offsets} {d} x = stand-alone f t order k r x.cs places offsets d x.sh x.accepted x.here x.stands x.known

-- ---- an execution ends: the instructions that are left, while the core is in mode 2

abbrev pub left_of : Registers → ℕ
left_of r = pick (eqb r.mode 2) (65536 - r.count) 0

pub left_less : (r r' : Registers) (i : ℕ) → r.mode ≡ 2 → r.count ≤ 65535 → 0 < i → (r'.mode ≡ 2 → r'.count + 0 ≡ r.count + i) → left_of r' < left_of r
left_less r r' i m c p g = go (ℕ_discrete r'.mode 2)
  where
    now-left : left_of r ≡ 65536 - r.count
    now-left = pick_true _ _ _ (eq-eqb r.mode 2 m)

    go : Dec (r'.mode ≡ 2) → left_of r' < left_of r
    go (yes q) =
        let later : left_of r' ≡ 65536 - r'.count = pick_true _ _ _ (eq-eqb r'.mode 2 q) in
        omega (arith, now-left, later, g q)
    go (no q) =
        let later : left_of r' ≡ 0 = pick-false _ _ _ (ne_eqb r'.mode 2 q) in
        omega (arith, now-left, later)
