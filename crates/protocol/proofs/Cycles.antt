-- Document 02, 2.9, of every list of steps: its takings are brought into whole cycles, one cycle after another.
-- In order: readings and writings alternate; each reading finds its core ready; from takings to an order of cycles; the semaphore; the theorem.
-- Not here: real files and calls (crate cycles). Assumes nothing.
use mathlib.Core.Path.{◌≡◌, refl, sym, ap, ◌∙◌, subst}
use mathlib.Core.Logic.{◌≢◌, ◌⊎◌, inl, inr}
use mathlib.Core.Bool.{Bool, true, false}
use mathlib.Core.List.{List, [], ◌∷◌, ◌++◌}
use Prim.Native.Nat.{ℕ, zero, suc, ◌≤◌, ◌<◌}
use native.Mathlib.Nat.{le_refl}
use native.Mathlib.Decide.{ℕ_discrete}
use native.Mathlib.Omega.{arith}
use lib.ListN.{length, get_or, set, drop}
use lib.Seq.{get_or-set_same, get_or-set_other}
use Rattle.protocol.specs.Registers.{read_acquired, byte_copied, read_released, write_acquired, write_released}
use Rattle.protocol.specs.State.{Core, Plant, State, Task, Sample, absent, core}
use Rattle.protocol.specs.Step.{Taking, reading, writing, read_taken, read_next, read_done, write_taken, write_next, write_done, run, step, takings, taking_of}
use Rattle.protocol.specs.Whole.{whole, whole_one}
use Rattle.verdict.specs.Verdict.{either}
use Rattle.protocol.specs.Laws.{Laws, Between, FreshStart, SemaphoreHeld, Holding}
use Rattle.protocol.specs.Variables.{Variable, reads_of, writes_of, Accepted}
use Rattle.protocol.specs.Cycles.{reads_from, line_between, OneWay, NoRing, cycle, cycles, EachRuns, begun, how_often, Serial}
use Rattle.protocol.proofs.View.{at, read_byte, Moves, rests, waits, takes_read, reads_on, reads_last, runs, takes_write, writes_on, writes_last, view}
use Rattle.protocol.proofs.Steps.{held-step, held-fresh, held-run}
use borrow.Author.Tests.{ne_eqb as eqb-off}
use Rattle.protocol.proofs.Whole.{Sim, sim-step, sim-fresh, as-whole, between-still, whole_append}
use Rattle.protocol.proofs.Bytes.{sound}
use Rattle.protocol.proofs.Commute.{by, other-core, swap-reads, swap-writes, swap-read-write, apart-bytes}
use Rattle.protocol.proofs.Order.{Alternate, Free, free-apart, Pulled, here, there, Written, First, first, left-alternates, left-shorter, left-begun}

-- ---- in a run, each core's readings and writings alternate

-- a core of mode m is between cycles (false) or within one (true); a stopped one may be either
abbrev Fits : Bool → ℕ → Type 0
Fits false m = (m ≢ 1) × (m ≢ 2) × (m ≢ 3)
Fits true m = (m ≢ 0) × (m ≢ 4)

module _ (t : Task) (k : ℕ) (s : State) where
  others : (j : ℕ) → k ≢ j → (s' : State) (ts : List Taking) → Moves t j s s' ts
      → (at s' k ≡ at s k) × ((b : Bool) (rest : List Taking) → Alternate k b rest → Alternate k b (ts ++ rest))
  others j n s' ts (rests z) = (refl, λ b r a. a)
  others j n s' ts (waits i wt b) = (refl, λ b r a. a)
  others j n s' ts (takes_read x rs i f b e d) = (get_or-set_other s.plant.cores j k (read_taken x (at s j)) absent n, λ b r a. inr (λ g. n (sym g), a))
  others j n s' ts (reads_on m ms i e d) = (get_or-set_other s.plant.cores j k (read_next (read_byte t j s) (at s j)) absent n, λ b r a. a)
  others j n s' ts (reads_last i e d) = (get_or-set_other s.plant.cores j k (read_done (read_byte t j s) (at s j)) absent n, λ b r a. a)
  others j n s' ts (runs i e) = (get_or-set_other s.plant.cores j k (t.instruction j (at s j)) absent n, λ b r a. a)
  others j n s' ts (takes_write i f b e) = (get_or-set_other s.plant.cores j k (write_taken (at s j)) absent n, λ b r a. inr (λ g. n (sym g), a))
  others j n s' ts (writes_on m ms i e d) = (get_or-set_other s.plant.cores j k (write_next (at s j)) absent n, λ b r a. a)
  others j n s' ts (writes_last i e d) = (get_or-set_other s.plant.cores j k (write_done (at s j)) absent n, λ b r a. a)

  there' : (c : Core) → k < length s.plant.cores → get_or (set s.plant.cores k c) k absent ≡ c
  there' c i = get_or-set_same s.plant.cores k c absent i

  own : Laws t → (s' : State) (ts : List Taking) → Moves t k s s' ts → (b : Bool) → Fits b (at s k).registers.mode
      → (rest : List Taking) → ((b' : Bool) → Fits b' (at s' k).registers.mode → Alternate k b' rest) → Alternate k b (ts ++ rest)
  unfolding read_taken read_next read_done write_taken write_next write_done read_acquired byte_copied read_released write_acquired write_released
  own l s' ts (rests z) b h rest go = go b h
  own l s' ts (waits i wt b) b' h rest go = go b' h
  own l s' ts (takes_read x rs i f b e d) true h rest go = absurd (h.0 e)
  own l s' ts (takes_read x rs i f b e d) false h rest go = inl (refl, go true (rw (there' (read_taken x (at s k)) i) (omega arith)))
  own l s' ts (reads_on m ms i e d) true h rest go = go true (rw (there' (read_next (read_byte t k s) (at s k)) i) (omega arith))
  own l s' ts (reads_on m ms i e d) false h rest go = absurd (h.0 e)
  own l s' ts (reads_last i e d) true h rest go = go true (rw (there' (read_done (read_byte t k s) (at s k)) i) (omega arith))
  own l s' ts (reads_last i e d) false h rest go = absurd (h.0 e)
  own l s' ts (runs i e) true h rest go = go true (rw (there' (t.instruction k (at s k)) i) (l.no-idle k (at s k) e, l.no_write k (at s k) e))
  own l s' ts (runs i e) false h rest go = absurd (h.1 e)
  own l s' ts (takes_write i f b e) true h rest go = inl (refl, go false (rw (there' (write_taken (at s k)) i) (omega arith)))
  own l s' ts (takes_write i f b e) false h rest go = absurd (h.2 e)
  own l s' ts (writes_on m ms i e d) true h rest go = absurd (h.1 e)
  own l s' ts (writes_on m ms i e d) false h rest go = go false (rw (there' (write_next (at s k)) i) (omega arith))
  own l s' ts (writes_last i e d) true h rest go = absurd (h.1 e)
  own l s' ts (writes_last i e d) false h rest go = go false (rw (there' (write_done (at s k)) i) (omega arith))

alternates : (t : Task) → Laws t → (k : ℕ) (ks : List ℕ) (s : State) (b : Bool) → Fits b (at s k).registers.mode → Alternate k b (takings t ks s)
alternates t l k [] s b h = tt
alternates t l k (j ∷ ks) s b h = go (ℕ_discrete k j) (λ b h. alternates t l k ks (step t j s) b h)
  where
    go : Dec (k ≡ j) → ((b : Bool) → Fits b (at (step t j s) k).registers.mode → Alternate k b (takings t ks (step t j s))) → Alternate k b (taking_of t j s ++ takings t ks (step t j s))
    go (yes e) r = subst (λ (j : ℕ). ((b : Bool) → Fits b (at (step t j s) k).registers.mode → Alternate k b (takings t ks (step t j s))) → Alternate k b (taking_of t j s ++ takings t ks (step t j s))) e
        (λ r. own t k s l (step t k s) (taking_of t k s) (view t k s) b h (takings t ks (step t k s)) r) r
    go (no n) r =
        let o : (at (step t j s) k ≡ at s k) × ((b : Bool) (rest : List Taking) → Alternate k b rest → Alternate k b (taking_of t j s ++ rest)) = others t k s j n (step t j s) (taking_of t j s) (view t j s) in
        o.1 b (takings t ks (step t j s)) (r b (subst (λ (c : Core). Fits b c.registers.mode) (sym o.0) h))

fresh-alternates : (t : Task) → Laws t → (s : State) → FreshStart s → (ks : List ℕ) (k : ℕ) → Alternate k false (takings t ks s)
fresh-alternates t l s f ks k = alternates t l k ks s false (go (f.between k))
  where
    go : ((at s k).registers.mode ≡ 0) ⊎ ((at s k).registers.mode ≡ 5) → Fits false (at s k).registers.mode
    go (inl e) = omega arith
    go (inr e) = omega arith

-- ---- in a run, each reading finds its core between cycles, with a record left

-- what a taking of core c wants of it; nothing is asked at a writing
abbrev Ready : Task → Taking → Core → Type 0
Ready t (reading k) c = (c.registers.mode ≡ 0) × (drop c.registers.cycles (t.samples k) ≢ [])
Ready t (writing k) c = Unit {0}

abbrev Legal : Task → List Taking → Plant → Type 0
Legal t [] p = Unit {0}
Legal t (x ∷ ts) p = Ready t x (core p (by x)) × Legal t ts (whole_one t x p)

legal-step : (t : Task) (k : ℕ) (s : State) (w : Plant) → Sim t s w → (s' : State) (ts : List Taking) → Moves t k s s' ts → (rest : List Taking) → Legal t rest (whole t ts w) → Legal t (ts ++ rest) w
legal-step t k s w sim s' ts (rests z) rest h = h
legal-step t k s w sim s' ts (waits i wt b) rest h = h
legal-step t k s w sim s' ts (takes_read r rs i f b e d) rest h =
    let q : core w k ≡ at s k = sim.same-core k ∙ rw e in
    (subst (λ (c : Core). Ready t (reading k) c) (sym q) (e, λ z. filled r rs (sym d ∙ z)), h)
  where
    filled : (r : Sample) (rs : List Sample) → r ∷ rs ≢ []
    filled r rs z = let o : ◌≡◌ {A = ℕ} 0 1 = cc in omega arith
legal-step t k s w sim s' ts (reads_on m ms i e d) rest h = h
legal-step t k s w sim s' ts (reads_last i e d) rest h = h
legal-step t k s w sim s' ts (runs i e) rest h = h
legal-step t k s w sim s' ts (takes_write i f b e) rest h = (tt, h)
legal-step t k s w sim s' ts (writes_on m ms i e d) rest h = h
legal-step t k s w sim s' ts (writes_last i e d) rest h = h

legal : (t : Task) → Laws t → (ks : List ℕ) (s : State) (w : Plant) → Sim t s w → SemaphoreHeld s → Legal t (takings t ks s) w
legal t l [] s w sim hd = tt
legal t l (k ∷ ks) s w sim hd =
    legal-step t k s w sim (step t k s) (taking_of t k s) (view t k s) (takings t ks (step t k s))
    (legal t l ks (step t k s) (whole t (taking_of t k s) w) (sim-step t l k s w sim hd) (held-step t l k s hd))

legal-append : (t : Task) (k : ℕ) (ts : List Taking) (p : Plant) → Legal t ts p → Legal t (ts ++ (writing k ∷ [])) p
legal-append t k [] p h = (tt, tt)
legal-append t k (x ∷ ts) p h = (h.0, legal-append t k ts (whole_one t x p) h.1)

ready-other : (t : Task) (x y : Taking) → by x ≢ by y → (p : Plant) → Ready t x (core (whole_one t y p) (by x)) ≡ Ready t x (core p (by x))
ready-other t x y n p = ap (λ (c : Core). Ready t x c) (other-core t y (by x) n p)

-- ---- from a list of takings to an order of whole cycles

-- a writing of a core that does not wait to write does nothing
no_write : (t : Task) (k : ℕ) (p : Plant) → (core p k).registers.mode ≢ 3 → whole_one t (writing k) p ≡ p
unfolding whole_one
no_write t k p n = rw (eqb-off (core p k).registers.mode 3 n)

module _ (t : Task) (reads : ℕ → ℕ → Bool) (swap : (x y : Taking) → Free reads x y → (p : Plant) → whole_one t x (whole_one t y p) ≡ whole_one t y (whole_one t x p)) where
  pull : (x : Taking) (ts us : List Taking) → Pulled reads x ts us → (p : Plant) → whole t ts p ≡ whole t us (whole_one t x p)
  pull x ts us here p = refl
  pull x ts us (there {y = y} {ts = ts'} {us = us'} f q) p = pull x ts' us' q (whole_one t y p) ∙ ap (λ (p : Plant). whole t us' p) (swap x y f p)

  pull-written : (k : ℕ) (us vs : List Taking) → Written reads k us vs → (p : Plant) → (core (whole t us p) k).registers.mode ≢ 3 → whole t us p ≡ whole t vs (whole_one t (writing k) p)
  pull-written k us vs (inl q) p n = pull (writing k) us vs q p
  pull-written k us vs (inr q) p n =
      sym (whole_append t us (writing k ∷ []) p ∙ no_write t k (whole t us p) n) ∙ pull (writing k) (us ++ (writing k ∷ [])) vs q.1 p

  pull-first : (ts : List Taking) (x : First reads ts) (p : Plant) → ((k : ℕ) → (core (whole t ts p) k).registers.mode ≢ 3) → whole t ts p ≡ whole t x.rest (cycle t x.who p)
  unfolding cycle
  pull-first ts x p n =
      let e : whole t ts p ≡ whole t x.mid (whole_one t (reading x.who) p) = pull (reading x.who) ts x.mid x.reads_first p in
      e ∙ pull-written x.who x.mid x.rest x.writes-next (whole_one t (reading x.who) p) (rw e at (n x.who))

  legal-pull : (x : Taking) (ts us : List Taking) → Pulled reads x ts us → (p : Plant) → Legal t ts p → Ready t x (core p (by x)) × Legal t us (whole_one t x p)
  legal-pull x ts us here p h = h
  legal-pull x ts us (there {y = y} {ts = ts'} {us = us'} f q) p h =
      let r : Ready t x (core (whole_one t y p) (by x)) × Legal t us' (whole_one t x (whole_one t y p)) = legal-pull x ts' us' q (whole_one t y p) h.1 in (
        rw (ready-other t x y (free-apart reads x y f) p) at r.0,
        (rw (ready-other t y x (λ e. free-apart reads x y f (sym e)) p) h.0, subst (λ (p : Plant). Legal t us' p) (swap x y f p) r.1),
      )

  legal-written : (k : ℕ) (us vs : List Taking) → Written reads k us vs → (p : Plant) → Legal t us p → Legal t vs (whole_one t (writing k) p)
  legal-written k us vs (inl q) p h = (legal-pull (writing k) us vs q p h).1
  legal-written k us vs (inr q) p h = (legal-pull (writing k) (us ++ (writing k ∷ [])) vs q.1 p (legal-append t k us p h)).1

  legal-first : (ts : List Taking) (x : First reads ts) (p : Plant) → Legal t ts p → Ready t (reading x.who) (core p x.who) × Legal t x.rest (cycle t x.who p)
  unfolding cycle
  legal-first ts x p h =
      let r : Ready t (reading x.who) (core p x.who) × Legal t x.mid (whole_one t (reading x.who) p) = legal-pull (reading x.who) ts x.mid x.reads_first p h in
      (r.0, legal-written x.who x.mid x.rest x.writes-next (whole_one t (reading x.who) p) r.1)

  serial : OneWay reads → NoRing (λ j k. either (reads j k) (reads k j)) → (f : ℕ) (ts : List Taking) → length ts ≤ f → ((k : ℕ) → Alternate k false ts)
      → (p : Plant) → ((k : ℕ) → (core (whole t ts p) k).registers.mode ≢ 3) → Legal t ts p
      → (order : List ℕ) × (whole t ts p ≡ cycles t order p) × ((k : ℕ) → how_often k order ≡ how_often k (begun ts)) × EachRuns t order p
  serial one none zero [] b alt p n h = ([], refl, λ k. refl, tt)
  serial one none zero (x ∷ ts) b alt p n h = absurd (omega arith)
  serial one none (suc f) [] b alt p n h = ([], refl, λ k. refl, tt)
  serial one none (suc f) (x ∷ ts) b alt p n h =
      let c : First reads (x ∷ ts) = first reads one none x ts alt in
      let e : whole t (x ∷ ts) p ≡ whole t c.rest (cycle t c.who p) = pull-first (x ∷ ts) c p n in
      let g : Ready t (reading c.who) (core p c.who) × Legal t c.rest (cycle t c.who p) = legal-first (x ∷ ts) c p h in
      let r : (order : List ℕ) × (whole t c.rest (cycle t c.who p) ≡ cycles t order (cycle t c.who p)) × ((k : ℕ) → how_often k order ≡ how_often k (begun c.rest)) × EachRuns t order (cycle t c.who p)
      = serial one none f c.rest (omega (arith, left-shorter reads (x ∷ ts) c)) (left-alternates reads (x ∷ ts) alt c) (cycle t c.who p) (λ k. rw e at (n k)) g.1 in
      (c.who ∷ r.0, e ∙ r.1, λ k. go k c.who r.0 (begun c.rest) (r.2 k) ∙ sym (left-begun reads (x ∷ ts) c k), (g.0.0, g.0.1, r.3))
    where
      go : (k j : ℕ) (l l' : List ℕ) → how_often k l ≡ how_often k l' → how_often k (j ∷ l) ≡ how_often k (j ∷ l')
      go k j l l' e = rw e

-- ---- the semaphore is free where no core is in an exchange

calm : (m n : ℕ) → m ≡ n → n ≢ 1 → n ≢ 4 → (m ≡ 1) ⊎ (m ≡ 4) → ⊥
calm m n e a b (inl f) = a (sym e ∙ f)
calm m n e a b (inr f) = b (sym e ∙ f)

free-end : (s : State) → SemaphoreHeld s → Between s → s.semaphore.holder ≡ 0
free-end s used b = go s.semaphore.holder refl
  where
    off : (h : ℕ) → ((at s h).registers.mode ≡ 0) ⊎ ((at s h).registers.mode ≡ 5) → Holding (at s h) → ⊥
    off h (inl e) x = calm (at s h).registers.mode 0 e (omega arith) (omega arith) x
    off h (inr e) x = calm (at s h).registers.mode 5 e (omega arith) (omega arith) x

    go : (h : ℕ) → s.semaphore.holder ≡ h → s.semaphore.holder ≡ 0
    go zero e = e
    go (suc h) e = absurd (off h (b h) (used.holding h e))

-- ---- the theorem

swaps : (t : Task) (vs : List Variable) (s : State) → t.reads ≡ reads_of vs → t.writes ≡ writes_of vs → Accepted vs s
    → (x y : Taking) → Free (reads_from vs) x y → (p : Plant) → whole_one t x (whole_one t y p) ≡ whole_one t y (whole_one t x p)
swaps t vs s er ew ok (reading i) (reading j) n p = swap-reads t i j n p
swaps t vs s er ew ok (reading i) (writing j) n p = swap-read-write t i j n.0 (rw (er, ew) (apart-bytes vs s ok i j n.1)) p
swaps t vs s er ew ok (writing i) (reading j) n p = sym (swap-read-write t j i (λ e. n.0 (sym e)) (rw (er, ew) (apart-bytes vs s ok j i n.1)) p)
swaps t vs s er ew ok (writing i) (writing j) n p = swap-writes t i j n (λ a b. (sound t s vs er ew ok).one_writer i j n a b) p

pub whole-cycles : (t : Task) (vs : List Variable) (s : State) → t.reads ≡ reads_of vs → t.writes ≡ writes_of vs → Laws t → FreshStart s → Accepted vs s
    → OneWay (reads_from vs) → NoRing (line_between vs) → (ks : List ℕ) → Between (run t ks s) → Serial t s ks
whole-cycles t vs s er ew l f ok one none ks b =
    let e : (run t ks s).plant ≡ whole t (takings t ks s) s.plant = as-whole t l s f ks (λ k. between-still (at (run t ks s) k) (b k)) in
    let r : (order : List ℕ) × (whole t (takings t ks s) s.plant ≡ cycles t order s.plant) × ((k : ℕ) → how_often k order ≡ how_often k (begun (takings t ks s))) × EachRuns t order s.plant
    = serial t (reads_from vs) (swaps t vs s er ew ok) one none (length (takings t ks s)) (takings t ks s) (le_refl _) (fresh-alternates t l s f ks) s.plant (λ k. rw e at (done k (b k))) (legal t l ks s s.plant (sim-fresh t s f) (held-fresh s f)) in
    record { order = r.0; ends = e ∙ r.1; free = free-end (run t ks s) (held-run t l s f ks) b; real = r.3; all = r.2 }
  where
    done : (k : ℕ) → ((at (run t ks s) k).registers.mode ≡ 0) ⊎ ((at (run t ks s) k).registers.mode ≡ 5) → (at (run t ks s) k).registers.mode ≢ 3
    done k (inl e) = omega arith
    done k (inr e) = omega arith
