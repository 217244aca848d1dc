-- Exchanges of different cores can change places, but for a reading and a writing whose bytes it reads.
-- In order: copies; one form for both kinds of exchange; the three changes of places; what the variables say of the bytes. Not here: which
-- exchanges a list of takings brings next to each other (`Order`). Assumes nothing.
use mathlib.Core.Path.{◌≡◌, refl, sym, ap, ◌∙◌}
use mathlib.Core.Logic.{◌≢◌, ◌⊎◌, inl, inr}
use mathlib.Core.Bool.{Bool, true, false}
use mathlib.Core.List.{List, [], ◌∷◌}
use Prim.Native.Nat.{ℕ, zero, suc}
use lib.Dec.{T, eqb}
use lib.ListN.{get_or, set, drop}
use lib.Seq.{get_or-set_other, set-get_or, set_comm}
use Rattle.verdict.proofs.Truth.{of-both, either_left, either-right}
use Rattle.protocol.specs.State.{Core, Plant, State, Task, Move, Sample, absent, core}
use Rattle.protocol.specs.Step.{Taking, reading, writing, copy, read_taken, read_done, write_done}
use Rattle.protocol.specs.Whole.{execute, whole_read, whole_write, whole_one}
use Rattle.verdict.specs.Verdict.{pick, both}
use Rattle.protocol.specs.Variables.{In, Variable, local, writes_it, reads_it, span, moves_of, reads_of, writes_of, Accepted}
use Rattle.protocol.specs.Cycles.{reads_from}
use Rattle.protocol.proofs.Copy.{copy-other}
use Rattle.protocol.proofs.Bytes.{in-append, in_left, in_right, apart}

-- the core of a taking
abbrev pub by : Taking → ℕ
by (reading k) = k
by (writing k) = k

-- ---- copies

-- what is copied does not depend on places that are not read
copy-from : (ms ws : List Move) (x sh to : List ℕ) → ((a b : Move) → In a ms → In b ws → b.target ≢ a.source) → copy ms (copy ws x sh) to ≡ copy ms sh to
copy-from [] ws x sh to h = refl
copy-from (m ∷ ms) ws x sh to h =
    rw (copy-other ws x sh m.source (λ b i. h m b (inl refl) i)) (copy-from ms ws x sh (set to m.target (get_or sh m.source 0)) (λ a b i j. h a b (inr i) j))

set-copy : (ws : List Move) (x sh : List ℕ) (i v : ℕ) → ((b : Move) → In b ws → i ≢ b.target) → set (copy ws x sh) i v ≡ copy ws x (set sh i v)
set-copy [] x sh i v h = refl
set-copy (w ∷ ws) x sh i v h =
    set-copy ws x (set sh w.target (get_or x w.source 0)) i v (λ b j. h b (inr j))
    ∙ ap (λ (l : List ℕ). copy ws x l) (sym (set_comm sh i w.target v (get_or x w.source 0) (h w (inl refl))))

-- copies to different places can change places
copy-swap : (ms ws : List Move) (x y sh : List ℕ) → ((a b : Move) → In a ms → In b ws → a.target ≢ b.target) → copy ms x (copy ws y sh) ≡ copy ws y (copy ms x sh)
copy-swap [] ws x y sh h = refl
copy-swap (m ∷ ms) ws x y sh h =
    ap (λ (l : List ℕ). copy ms x l) (set-copy ws y sh m.target (get_or x m.source 0) (λ b i. h m b (inl refl) i))
    ∙ copy-swap ms ws x y (set sh m.target (get_or x m.source 0)) (λ a b i j. h a b (inr i) j)

-- ---- one form for both kinds of exchange

-- core k becomes f of shared memory and itself, and copies the bytes g of itself to shared memory
abbrev act : ℕ → (List ℕ → Core → Core) → (Core → List Move) → Plant → Plant
act k f g p = record { cores = set p.cores k (f p.shared (core p k)); shared = copy (g (core p k)) (core p k).memory p.shared }

act-swap : (i j : ℕ) (f f' : List ℕ → Core → Core) (g g' : Core → List Move) → i ≢ j
    → ((c d : Core) (sh : List ℕ) → f (copy (g' d) d.memory sh) c ≡ f sh c)
    → ((c d : Core) (sh : List ℕ) → f' (copy (g d) d.memory sh) c ≡ f' sh c)
    → ((c d : Core) (sh : List ℕ) → copy (g c) c.memory (copy (g' d) d.memory sh) ≡ copy (g' d) d.memory (copy (g c) c.memory sh))
    → (p : Plant) → act i f g (act j f' g' p) ≡ act j f' g' (act i f g p)
act-swap i j f f' g g' n hf hf' hg p =
    let ci : Core = core p i in
    let cj : Core = core p j in
    rw (
      get_or-set_other p.cores j i (f' p.shared cj) absent n,
      get_or-set_other p.cores i j (f p.shared ci) absent (λ e. n (sym e)),
      hf ci cj p.shared,
      hf' cj ci p.shared,
      set_comm p.cores j i (f' p.shared cj) (f p.shared ci) (λ e. n (sym e)),
      hg ci cj p.shared,
    )

abbrev read_in : ℕ → List Sample → Task → ℕ → List ℕ → Core → Core
read_in zero [] t k sh c = c
read_in zero (r ∷ rs) t k sh c = execute t (suc (t.limit k)) k (read_done (copy (t.reads k) sh (read_taken r c).memory) (read_taken r c))
read_in (suc m) rs t k sh c = c

abbrev read_f : Task → ℕ → List ℕ → Core → Core
read_f t k sh c = read_in c.registers.mode (drop c.registers.cycles (t.samples k)) t k sh c

abbrev write_f : List ℕ → Core → Core
write_f sh c = pick (eqb c.registers.mode 3) (write_done c) c

abbrev write_g : Task → ℕ → Core → List Move
write_g t k c = pick (eqb c.registers.mode 3) (t.writes k) []

keep : (p : Plant) (k : ℕ) → p ≡ record { cores = set p.cores k (core p k); shared = p.shared }
keep p k = rw (set-get_or p.cores k absent)

read-act : (t : Task) (k : ℕ) (p : Plant) → whole_one t (reading k) p ≡ act k (read_f t k) (λ c. []) p
unfolding whole_one
read-act t k p = go (core p k).registers.mode (drop (core p k).registers.cycles (t.samples k))
  where
    go : (m : ℕ) (rs : List Sample) → whole_read m rs t k (core p k) p ≡ record { cores = set p.cores k (read_in m rs t k p.shared (core p k)); shared = p.shared }
    go zero [] = keep p k
    go zero (r ∷ rs) = refl
    go (suc m) rs = keep p k

write-act : (t : Task) (k : ℕ) (p : Plant) → whole_one t (writing k) p ≡ act k write_f (write_g t k) p
unfolding whole_one pick
write-act t k p = go (eqb (core p k).registers.mode 3)
  where
    go : (b : Bool) → whole_write b t k (core p k) p ≡ record { cores = set p.cores k (pick b (write_done (core p k)) (core p k)); shared = copy (pick b (t.writes k) []) (core p k).memory p.shared }
    go true = refl
    go false = keep p k

-- an exchange leaves other cores alone
pub other-core : (t : Task) (x : Taking) (k : ℕ) → k ≢ by x → (p : Plant) → core (whole_one t x p) k ≡ core p k
other-core t (reading j) k n p = rw (read-act t j p) (get_or-set_other p.cores j k (read_f t j p.shared (core p j)) absent n)
other-core t (writing j) k n p = rw (write-act t j p) (get_or-set_other p.cores j k (write_f p.shared (core p j)) absent n)

-- ---- the three changes of places

pub swap-reads : (t : Task) (i j : ℕ) → i ≢ j → (p : Plant) → whole_one t (reading i) (whole_one t (reading j) p) ≡ whole_one t (reading j) (whole_one t (reading i) p)
swap-reads t i j n p =
    rw (read-act t j p, read-act t i p, read-act t i (act j (read_f t j) (λ c. []) p), read-act t j (act i (read_f t i) (λ c. []) p))
    (act-swap i j (read_f t i) (read_f t j) (λ c. []) (λ c. []) n (λ c d sh. refl) (λ c d sh. refl) (λ c d sh. refl) p)

pub swap-writes : (t : Task) (i j : ℕ) → i ≢ j → ((a b : Move) → In a (t.writes i) → In b (t.writes j) → a.target ≢ b.target)
    → (p : Plant) → whole_one t (writing i) (whole_one t (writing j) p) ≡ whole_one t (writing j) (whole_one t (writing i) p)
unfolding pick
swap-writes t i j n h p =
    rw (write-act t j p, write-act t i p, write-act t i (act j write_f (write_g t j) p), write-act t j (act i write_f (write_g t i) p))
    (act-swap i j write_f write_f (write_g t i) (write_g t j) n (λ c d sh. refl) (λ c d sh. refl) (λ c d sh. go (eqb c.registers.mode 3) (eqb d.registers.mode 3) c.memory d.memory sh) p)
  where
    go : (b b' : Bool) (x y sh : List ℕ) → copy (pick b (t.writes i) []) x (copy (pick b' (t.writes j) []) y sh) ≡ copy (pick b' (t.writes j) []) y (copy (pick b (t.writes i) []) x sh)
    go true true x y sh = copy-swap (t.writes i) (t.writes j) x y sh h
    go true false x y sh = refl
    go false b' x y sh = refl

pub swap-read-write : (t : Task) (i j : ℕ) → i ≢ j → ((a b : Move) → In a (t.reads i) → In b (t.writes j) → b.target ≢ a.source)
    → (p : Plant) → whole_one t (reading i) (whole_one t (writing j) p) ≡ whole_one t (writing j) (whole_one t (reading i) p)
unfolding pick
swap-read-write t i j n h p =
    rw (write-act t j p, read-act t i p, read-act t i (act j write_f (write_g t j) p), write-act t j (act i (read_f t i) (λ c. []) p))
    (act-swap i j (read_f t i) write_f (λ c. []) (write_g t j) n (λ c d sh. go (eqb d.registers.mode 3) c.registers.mode (drop c.registers.cycles (t.samples i)) c d.memory sh) (λ c d sh. refl) (λ c d sh. refl) p)
  where
    go : (b : Bool) (m : ℕ) (rs : List Sample) (c : Core) (y sh : List ℕ) → read_in m rs t i (copy (pick b (t.writes j) []) y sh) c ≡ read_in m rs t i sh c
    go false m rs c y sh = refl
    go true zero [] c y sh = refl
    go true zero (r ∷ rs) c y sh = ap (λ (l : List ℕ). execute t (suc (t.limit i)) i (read_done l (read_taken r c))) (copy-from (t.reads i) (t.writes j) y sh (read_taken r c).memory h)
    go true (suc m) rs c y sh = refl

-- ---- what the variables say of the bytes

abbrev turned : Move → Move
turned m = record { source = m.target; target = m.source }

span-turned : (n a b : ℕ) (m : Move) → In m (span n a b) → In (turned m) (span n b a)
span-turned zero a b m h = absurd h
span-turned (suc n) a b m (inl e) = inl (ap turned e)
span-turned (suc n) a b m (inr h) = inr (span-turned n (suc a) (suc b) m h)

pick-turned : (named : Bool) (n a b : ℕ) (m : Move) → In m (pick named (span n a b) []) → In (turned m) (pick named (span n b a) [])
unfolding pick
pick-turned true n a b m h = span-turned n a b m h
pick-turned false n a b m h = absurd h

moves_turned : (named : Variable → Bool) (from to : Variable → ℕ) (vs : List Variable) (m : Move) → In m (moves_of named from to vs) → In (turned m) (moves_of named to from vs)
moves_turned named from to [] m h = absurd h
moves_turned named from to (v ∷ vs) m h = go (λ i. moves_turned named from to vs m i) (in-append m (pick (named v) (span v.width (from v) (to v)) []) (moves_of named from to vs) h)
  where
    go : (In m (moves_of named from to vs) → In (turned m) (moves_of named to from vs)) → In m (pick (named v) (span v.width (from v) (to v)) []) ⊎ In m (moves_of named from to vs) → In (turned m) (moves_of named to from (v ∷ vs))
    go f (inl i) = in_left (turned m) (pick (named v) (span v.width (to v) (from v)) []) (moves_of named to from vs) (pick-turned (named v) v.width (from v) (to v) m i)
    go f (inr i) = in_right (turned m) (pick (named v) (span v.width (to v) (from v)) []) (moves_of named to from vs) (f i)

reads-it : (vs : List Variable) (r w : ℕ) (v : Variable) → In v vs → T (reads_it r v) → T (writes_it w v) → T (reads_from vs r w)
reads-it [] r w v i a b = absurd i
reads-it (u ∷ vs) r w v (inl e) a b =
    either_left (both (reads_it r u) (writes_it w u)) (reads_from vs r w) (of-both (reads_it r u) (writes_it w u) (rw e at a) (rw e at b))
reads-it (u ∷ vs) r w v (inr i) a b = either-right (both (reads_it r u) (writes_it w u)) (reads_from vs r w) (reads-it vs r w v i a b)

-- where core r reads no variable that core w writes, it reads no byte that core w writes
pub apart-bytes : (vs : List Variable) (s : State) → Accepted vs s → (r w : ℕ) → (T (reads_from vs r w) → ⊥)
    → (a b : Move) → In a (reads_of vs r) → In b (writes_of vs w) → b.target ≢ a.source
apart-bytes vs s ok r w n a b i j e =
    apart (reads_it r) (writes_it w) (local r) (local w) (λ v. v.place) vs (λ v k x y. n (reads-it vs r w v k x y)) ok.clear-shared (turned a) b
    (moves_turned (reads_it r) (λ v. v.place) (local r) vs a i) j (sym e)
