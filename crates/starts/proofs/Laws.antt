-- The loops that fill the memories of the fresh state. In order: one core's start values; the data buffer; a core's part of it; shared memory; a file of
-- the old form. Assumes nothing.
use mathlib.Core.Path.{◌≡◌, refl, sym, ap, ap₂, ◌∙◌, subst}
use mathlib.Core.Bool.{true, false}
use mathlib.Core.List.{List, [], ◌∷◌, ◌++◌, append_assoc, append-nil, map}
use Prim.Native.Nat.{ℕ, zero, suc, ◌+◌, ◌-◌, ◌*◌, ◌≤◌, ◌<◌}
use native.Mathlib.Nat.{zero-add, add-zero, suc-add, add-suc}
use native.Mathlib.Numerals.{add-one}
use native.Mathlib.Omega.{arith}
use lib.Dec.{T}
use lib.ListN.{length, take, drop, set, get_or, length-append, length-set, length-replicate, replicate-append-replicate}
use lib.Seq.{take_at, drop_at, take-take, drop-drop}
use Rattle.verdict.proofs.Verdict.{pick_true}
use Rattle.verdict.proofs.Truth.{either-right}
use Rattle.memory.specs.Memory.{splice, part, byte, word, start, total, flat}
use Rattle.memory.proofs.Laws.{drop-take, length-splice}
use Rattle.memory.proofs.Cores.{split_at, split-flat-of, start-end}
use Rattle.protocol.specs.Fresh.{zeros}
use Rattle.protocol.specs.Variables.{Variable, local, reads_it, writes_it}
use Rattle.records.specs.File.{cores, data_size, variables, record_place, variable_in, variable_at}
use Rattle.records.specs.Rules.{VariableRules}
use Rattle.taskset.specs.Judge.{is_new, code_place, start_sections, start_place, judge}
use Rattle.taskset.specs.declared.CoreLayout.{CoreLayout}
use Rattle.taskset.specs.Layout.{base_place, core_layout}
use Rattle.taskset.specs.Task.{listed, sizes_of, variables_of}
use Rattle.taskset.specs.Starts.{with_pairs, start_data, writer_of, with_written, starts_of, start_buffer}
use Rattle.taskset.proofs.Laws.{base-next, start-next}
use Rattle.taskset.proofs.Exact.{keeps-rules, starts-inside}
use Rattle.taskset.proofs.Accepted.{listed_at, core-facts, sizes-length, sizes-at, base-start, record-in-file, length-start, start-sizes}
use Rattle.taskset.proofs.Starts.{writer-of, old-starts}

-- ---- one core's start values: i of n are written, the next one stands at `at`

pub record Pairing (f : List ℕ) (q n : ℕ) (d₀ d : List ℕ) (at i : ℕ) : Type 0 where
  pub here : at ≡ q + 3 * i
  pub upto : i ≤ n
  pub size : length d ≡ length d₀
  pub rest : with_pairs f at (n - i) d ≡ with_pairs f q n d₀

pub pairing-none : (f : List ℕ) (q n : ℕ) (d : List ℕ) (at : ℕ) → at ≡ q → Pairing f q n d d at 0
pairing-none f q n d at e = record { here = omega arith; upto = omega arith; size = refl; rest = ap₂ (λ (p m : ℕ). with_pairs f p m d) e (let k : n - 0 ≡ n = omega arith in k) }

module _ (f : List ℕ) (q n : ℕ) (d₀ d : List ℕ) (at i : ℕ) (x : Pairing f q n d₀ d at i) where
  pub pairing-more : (place b next : ℕ) → next ≡ at + 3 → i < n → place ≡ word f at → b ≡ byte f (at + 2) → Pairing f q n d₀ (set d place b) next (i + 1)
  unfolding with_pairs
  pairing-more place b next t h e g =
      let s : n - i ≡ suc (n - (i + 1)) = omega arith in
      record {
        here = omega (arith, x.here);
        upto = omega arith;
        size = length-set d place b ∙ x.size;
        rest = ap (λ (p : ℕ). with_pairs f p (n - (i + 1)) (set d place b)) t ∙ ap₂ (λ (p v : ℕ). with_pairs f (at + 3) (n - (i + 1)) (set d p v)) e g ∙ sym (ap (λ (m : ℕ). with_pairs f at m d) s) ∙ x.rest;
      }

  pub pairing-inside : (place : ℕ) → i < n → place ≡ word f at → ((j : ℕ) → j < n → word f (q + 3 * j) < length d₀) → place < length d
  pairing-inside place h e inside =
      let l : word f (q + 3 * i) < length d₀ = inside i h in
      let m : word f at ≡ word f (q + 3 * i) = ap (word f) x.here in
      omega (arith, x.size)

  pub pairing-done : n ≤ i → d ≡ with_pairs f q n d₀
  unfolding with_pairs
  pairing-done h = sym (ap (λ (m : ℕ). with_pairs f at m d) (let e : n - i ≡ 0 = omega arith in e)) ∙ x.rest

-- ---- the data buffer: k cores have their start values, and zeros follow

front-zeros : (n m : ℕ) → take n (zeros (n + m)) ≡ zeros n
front-zeros zero m = refl
front-zeros (suc n) m = ap (take (suc n)) (ap zeros (suc-add n m)) ∙ ap (λ (l : List ℕ). 0 ∷ l) (front-zeros n m)

back-zeros : (n m : ℕ) → drop n (zeros (n + m)) ≡ zeros m
back-zeros zero m = ap zeros (zero-add m)
back-zeros (suc n) m = ap (drop (suc n)) (ap zeros (suc-add n m)) ∙ back-zeros n m

flat-one : (g : ℕ → List ℕ) (n i : ℕ) → flat (listed g (suc n) i) ≡ flat (listed g n i) ++ g (i + n)
unfolding listed flat
flat-one g zero i = append-nil (g i) ∙ ap g (sym (add-zero i))
flat-one g (suc n) i =
    ap (λ (l : List ℕ). g i ++ l) (flat-one g n (suc i) ∙ ap (λ (j : ℕ). flat (listed g n (suc i)) ++ g j) (suc-add i n ∙ sym (add-suc i n)))
    ∙ sym (append_assoc (g i) (flat (listed g n (suc i))) (g (i + suc n)))

-- the data of the first k cores
abbrev first : List ℕ → ℕ → List ℕ
first f k = flat (listed (start_data f) k 0)

first_more : (f : List ℕ) (k : ℕ) → first f (suc k) ≡ first f k ++ start_data f k
first_more f k = flat-one (start_data f) k 0 ∙ ap (λ (j : ℕ). first f k ++ start_data f j) (zero-add k)

length-first : (f : List ℕ) (k : ℕ) → length (first f k) ≡ base_place f k
unfolding listed flat base_place
length-first f zero = refl
length-first f (suc k) = ap length (first_more f k) ∙ length-append (first f k) (start_data f k) ∙ ap₂ ◌+◌ (length-first f k) (length-start f k)

start-all : (ns : List ℕ) → start ns (length ns) ≡ total ns
unfolding start total
start-all [] = refl
start-all (n ∷ ns) = ap (λ (m : ℕ). n + m) (start-all ns)

pub base-all : (f : List ℕ) → base_place f (cores f) ≡ total (sizes_of f)
base-all f = base-start f (cores f) (omega arith) ∙ ap (start (sizes_of f)) (sym (sizes-length f)) ∙ start-all (sizes_of f)

-- a core's data lie within the buffer
pub base-end : (f : List ℕ) (k : ℕ) → k < cores f → base_place f k + data_size f k ≤ total (sizes_of f)
base-end f k h = omega (arith, base-start f k (omega arith), sizes-at f k h, start-end (sizes_of f) k (subst (λ (n : ℕ). k < n) (sym (sizes-length f)) h))

pub record Filling (f d : List ℕ) (p a k : ℕ) : Type 0 where
  pub here : p ≡ start_place f k
  pub base : a ≡ base_place f k
  pub upto : k ≤ cores f
  pub written : d ≡ first f k ++ zeros (total (sizes_of f) - base_place f k)

pub filling-none : (f d : List ℕ) (p n : ℕ) → p ≡ code_place f n → n ≡ cores f → d ≡ zeros (total (sizes_of f)) → Filling f d p 0 0
unfolding start_place base_place listed flat
filling-none f d p n e h z = record { here = e ∙ ap (code_place f) h; base = refl; upto = omega arith; written = z ∙ ap zeros (let q : total (sizes_of f) ≡ total (sizes_of f) - 0 = omega arith in q) }

module _ (f d : List ℕ) (p a k : ℕ) (x : Filling f d p a k) where
  pub filling-size : length d ≡ total (sizes_of f)
  filling-size =
      ap length x.written
      ∙ length-append (first f k) (zeros (total (sizes_of f) - base_place f k))
      ∙ omega (arith, length-first f k, length-replicate {A = ℕ} (total (sizes_of f) - base_place f k) 0, base-up)
    where
      base-up : base_place f k ≤ total (sizes_of f)
      base-up = go (cores f - k) (let e : k + (cores f - k) ≡ cores f = omega (arith, x.upto) in e)
        where
          go : (j : ℕ) → k + j ≡ cores f → base_place f k ≤ total (sizes_of f)
          go zero e = let q : base_place f k ≡ base_place f (cores f) = ap (base_place f) (let y : k ≡ cores f = omega arith in y) in omega (arith, base-all f)
          go (suc j) e = omega (arith, base-end f k (omega arith))

  pub room : k < cores f → a + data_size f k ≤ length d
  room h = omega (arith, filling-size, x.base, base-end f k h)

  module _ (accepted : judge f ≡ 0) (new : is_new f ≡ true) (n e count : ℕ) (among : n ≡ cores f) (h : k < n) (size : e ≡ a + data_size f k) (counted : count ≡ word f p) where
    known : k < cores f
    known = omega arith

    sections : k < start_sections f
    sections = let q : start_sections f ≡ cores f = pick_true (is_new f) (cores f) 0 new in omega (arith, known)

    at_place : word f p ≡ word f (start_place f k)
    at_place = ap (word f) x.here

    -- the start values lie in the file, and their places in the core's data
    pub pairs-there : p + 2 + 3 * count ≤ length f
    pairs-there = omega (arith, starts-inside f (keeps-rules f accepted).ends k sections, x.here, at_place)

    pub fits : (a ≤ e) × (e ≤ length d)
    fits = (omega arith, omega (arith, room known))

    mine : take (e - a) (drop a d) ≡ zeros (data_size f k)
    mine =
        ap (λ (l : List ℕ). take (e - a) (drop a l)) x.written
        ∙ ap (take (e - a)) (drop_at (first f k) (zeros (total (sizes_of f) - base_place f k)) a (length-first f k ∙ sym x.base))
        ∙ ap₂ (λ (m r : ℕ). take m (zeros r)) (let q : e - a ≡ data_size f k = omega arith in q)
        (let q : total (sizes_of f) - base_place f k ≡ data_size f k + (total (sizes_of f) - base_place f k - data_size f k) = omega (arith, base-end f k known) in q)
        ∙ front-zeros (data_size f k) (total (sizes_of f) - base_place f k - data_size f k)

    pub pairs-inside : (i : ℕ) → i < count → word f (p + 2 + 3 * i) < length (take (e - a) (drop a d))
    pairs-inside i l =
        let r = ((keeps-rules f accepted).start-rules k sections i (omega (arith, at_place))).in-data in
        let m : word f (p + 2 + 3 * i) ≡ word f (start_place f k + 2 + 3 * i) = ap (λ (y : ℕ). word f (y + 2 + 3 * i)) x.here in
        let z : length (take (e - a) (drop a d)) ≡ data_size f k = ap length mine ∙ length-replicate {A = ℕ} (data_size f k) 0 in
        omega arith

    pub filling-more : (d' last : List ℕ) → d' ≡ take a d ++ (last ++ drop (e - a) (drop a d)) → last ≡ with_pairs f (p + 2) count (take (e - a) (drop a d))
        → Filling f d' (p + 2 + 3 * count) e (k + 1)
    unfolding start_data
    filling-more d' last back wrote = record {
      here = start-next f p k count x.here counted;
      base = size ∙ base-next f a k (data_size f k) x.base refl;
      upto = omega (arith, known);
      written =
          back
          ∙ ap₂ (λ (u v : List ℕ). u ++ v) front (ap₂ (λ (u v : List ℕ). u ++ v) core-data back-part)
          ∙ sym (append_assoc (first f k) (start_data f k) (zeros (total (sizes_of f) - base_place f (k + 1))))
          ∙ ap (λ (l : List ℕ). l ++ zeros (total (sizes_of f) - base_place f (k + 1))) (sym (first_more f k) ∙ ap (first f) (sym (add-one k)));
    }
      where
        front : take a d ≡ first f k
        front = ap (take a) x.written ∙ take_at (first f k) (zeros (total (sizes_of f) - base_place f k)) a (length-first f k ∙ sym x.base)

        core-data : last ≡ start_data f k
        core-data =
            wrote
            ∙ ap (with_pairs f (p + 2) count) mine
            ∙ ap₂ (λ (q m : ℕ). with_pairs f (q + 2) m (zeros (data_size f k))) x.here (counted ∙ at_place ∙ sym (pick_true (is_new f) (word f (start_place f k)) 0 new))

        back-part : drop (e - a) (drop a d) ≡ zeros (total (sizes_of f) - base_place f (k + 1))
        back-part =
            ap (λ (l : List ℕ). drop (e - a) (drop a l)) x.written
            ∙ ap (drop (e - a)) (drop_at (first f k) (zeros (total (sizes_of f) - base_place f k)) a (length-first f k ∙ sym x.base))
            ∙ ap₂ (λ (m r : ℕ). drop m (zeros r)) (let q : e - a ≡ data_size f k = omega arith in q)
            (let q : total (sizes_of f) - base_place f k ≡ data_size f k + (total (sizes_of f) - base_place f k - data_size f k) = omega (arith, base-end f k known) in q)
            ∙ back-zeros (data_size f k) (total (sizes_of f) - base_place f k - data_size f k)
            ∙ ap zeros (let q : total (sizes_of f) - base_place f k - data_size f k ≡ total (sizes_of f) - base_place f (k + 1) = omega (arith, base-next f (base_place f k) k (data_size f k) refl refl) in q)

  pub filling-done : (n : ℕ) → n ≡ cores f → n ≤ k → d ≡ start_buffer f
  unfolding start_buffer
  filling-done n among h =
      let e : k ≡ cores f = omega (arith, x.upto) in
      x.written
      ∙ ap₂ (λ (j m : ℕ). first f j ++ zeros m) e (let q : total (sizes_of f) - base_place f k ≡ 0 = omega (arith, ap (base_place f) e, base-all f) in q)
      ∙ append-nil (first f (cores f))

-- ---- a core's part of the data buffer

part-of-core : (f : List ℕ) (k a n : ℕ) → k < cores f → a + n ≤ data_size f k → part (start_buffer f) (base_place f k + a) n ≡ part (start_data f k) a n
unfolding part start_buffer
part-of-core f k a n h l =
    sym
    (ap (λ (d : List ℕ). take n (drop a d)) mine
    ∙ drop-take a n (take (data_size f k) (drop (base_place f k) (flat (starts_of f))))
    ∙ ap (drop a) (take-take (a + n) (data_size f k) (drop (base_place f k) (flat (starts_of f))) l)
    ∙ sym (drop-take a n (drop (base_place f k) (flat (starts_of f))))
    ∙ ap (take n) (drop-drop a (base_place f k) (flat (starts_of f))))
  where
    mine : start_data f k ≡ take (data_size f k) (drop (base_place f k) (flat (starts_of f)))
    mine =
        sym (listed_at (start_data f) (cores f) k [] h)
        ∙ ap (λ (l : List (List ℕ)). get_or l k []) (sym (split-flat-of (sizes_of f) (starts_of f) (start-sizes f)))
        ∙ split_at (sizes_of f) (flat (starts_of f)) k (subst (λ (n : ℕ). k < n) (sym (sizes-length f)) h)
        ∙ ap₂ (λ (m b : ℕ). take m (drop b (flat (starts_of f)))) (sizes-at f k h) (sym (base-start f k (omega arith)))

-- ---- shared memory: the variables before number i are written, whose record stands at p

pub record Publishing (f : List ℕ) (m : ℕ) (s₀ s : List ℕ) (p i : ℕ) : Type 0 where
  pub all : m ≡ variables f
  pub here : p ≡ record_place f i
  pub upto : i ≤ m
  pub size : length s ≡ 1024
  pub rest : with_written (start_data f) (listed (variable_at f) (m - i) i) s ≡ with_written (start_data f) (variables_of f) s₀

pub publishing-none : (f : List ℕ) (m : ℕ) (s : List ℕ) (p : ℕ) → m ≡ variables f → p ≡ record_place f 0 → length s ≡ 1024 → Publishing f m s s p 0
unfolding variables_of
publishing-none f m s p e h l = record {
  all = e;
  here = h;
  upto = omega arith;
  size = l;
  rest = ap (λ (n : ℕ). with_written (start_data f) (listed (variable_at f) n 0) s) (let q : m - 0 ≡ variables f = omega arith in q);
}

module _ (f : List ℕ) (accepted : judge f ≡ 0) (m : ℕ) (s₀ s : List ℕ) (p i : ℕ) (x : Publishing f m s₀ s p i) (h : i < m) where
  -- the variable, as its record at p has it
  abbrev v : Variable
  v = variable_in f p

  same : v ≡ variable_at f i
  same = ap (variable_in f) x.here

  rules : VariableRules f v
  rules = subst (VariableRules f) (sym same) ((keeps-rules f accepted).variable-rules i (omega (arith, x.all)))

  pub record-there : p + 12 ≤ length f
  record-there = omega (arith, x.here, x.all, record-in-file f accepted i (omega (arith, x.all)))

  writes : T (writes_it (writer_of v) v)
  writes = subst (λ (k : ℕ). T (writes_it k v)) (sym (writer-of v rules.writer)) rules.writer.writes

  pub writer-known : writer_of v < cores f
  writer-known = rules.known (writer_of v) (either-right (reads_it (writer_of v) v) (writes_it (writer_of v) v) writes)

  local_fits : local (writer_of v) v + v.width ≤ data_size f (writer_of v)
  local_fits = rules.in-data (writer_of v) (either-right (reads_it (writer_of v) v) (writes_it (writer_of v) v) writes)

  based : (core_layout f (writer_of v)).base ≡ base_place f (writer_of v)
  based = ap (λ (c : CoreLayout). c.base) (core-facts f accepted (writer_of v) writer-known).laid_out

  module _ (w b : ℕ) (e : w ≡ writer_of v) (g : b ≡ (core_layout f w).base) where
    base-is : b ≡ base_place f (writer_of v)
    base-is = g ∙ ap (λ (k : ℕ). (core_layout f k).base) e ∙ based

    local-is : local w v ≡ local (writer_of v) v
    local-is = ap (λ (k : ℕ). local k v) e

    -- the bytes lie in shared memory and in the data buffer, which is small
    pub shared-fits : v.place + v.width ≤ length s
    shared-fits = omega (arith, rules.in-shared, x.size)

    pub buffer-fits : b + local w v + v.width ≤ total (sizes_of f)
    buffer-fits = omega (arith, base-is, local-is, local_fits, base-end f (writer_of v) writer-known)

    pub publishing-more : (s' buffer : List ℕ) (next : ℕ) → next ≡ p + 12 → buffer ≡ start_buffer f → s' ≡ splice s v.place (part buffer (b + local w v) v.width) → Publishing f m s₀ s' next (i + 1)
    unfolding with_written listed
    publishing-more s' buffer next step filled copied =
        let n : m - i ≡ suc (m - (i + 1)) = omega arith in
        record {
          all = x.all;
          here = omega (arith, x.here);
          upto = omega arith;
          size = ap length copied ∙ length-splice s v.place (part buffer (b + local w v) v.width) ∙ x.size;
          rest =
              ap₂ (λ (l : List Variable) (t : List ℕ). with_written (start_data f) l t) (ap (listed (variable_at f) (m - (i + 1))) (add-one i))
              (copied ∙ ap (splice s v.place) from-writer
              ∙ ap (λ (u : Variable). splice s u.place (part (start_data f (writer_of u)) (local (writer_of u) u) u.width)) same)
              ∙ sym (ap (λ (c : ℕ). with_written (start_data f) (listed (variable_at f) c i) s) n)
              ∙ x.rest;
        }
      where
        from-writer : part buffer (b + local w v) v.width ≡ part (start_data f (writer_of v)) (local (writer_of v) v) v.width
        from-writer =
            ap (λ (l : List ℕ). part l (b + local w v) v.width) filled
            ∙ ap₂ (λ (c y : ℕ). part (start_buffer f) (c + y) v.width) base-is local-is
            ∙ part-of-core f (writer_of v) (local (writer_of v) v) v.width writer-known local_fits

-- the copy, by what its places are
pub copied-as : (s' s buffer : List ℕ) (base to loc n place l width : ℕ) → s' ≡ splice s to (part buffer (base + loc) n) → to ≡ place → loc ≡ l → n ≡ width
    → s' ≡ splice s place (part buffer (base + l) width)
copied-as s' s buffer base to loc n place l width e a b c = rw (← a, ← b, ← c) e

pub publishing-done : (f : List ℕ) (m : ℕ) (s₀ s : List ℕ) (p i : ℕ) → Publishing f m s₀ s p i → m ≤ i → s ≡ with_written (start_data f) (variables_of f) s₀
unfolding with_written listed
publishing-done f m s₀ s p i x h = sym (ap (λ (n : ℕ). with_written (start_data f) (listed (variable_at f) n i) s) (let e : m - i ≡ 0 = omega arith in e)) ∙ x.rest

-- ---- a file of the old form: zeros

flat-zeros : (ns : List ℕ) → flat (map zeros ns) ≡ zeros (total ns)
unfolding flat total
flat-zeros [] = refl
flat-zeros (n ∷ ns) = ap (λ (l : List ℕ). zeros n ++ l) (flat-zeros ns) ∙ replicate-append-replicate n (total ns) 0

pub old-buffer : (f : List ℕ) → is_new f ≡ false → start_buffer f ≡ zeros (total (sizes_of f))
unfolding start_buffer
old-buffer f old = ap flat (old-starts f old) ∙ flat-zeros (sizes_of f)
