-- What a machine rests on once a file is accepted. In order: tables of numbered items; each core's data and code, the layout; the fresh state and the
-- variables as crate `protocol` asks for them. Assumes nothing.
use mathlib.Core.Path.{◌≡◌, refl, sym, ap, ◌∙◌, subst}
use mathlib.Core.List.{List, [], ◌∷◌, map}
use mathlib.Core.Logic.{inl, inr}
use Prim.Native.Nat.{ℕ, zero, suc, ◌+◌, ◌≤◌, ◌<◌}
use native.Mathlib.Nat.{add-zero, zero-add, suc-add, add-suc}
use native.Mathlib.Omega.{arith}
use borrow.Author.Tests.{lt-ltb}
use lib.Dec.{T}
use lib.ListN.{length, get_or, set, length-map, length-replicate, length-set}
use Rattle.verdict.proofs.Verdict.{pick_true}
use Rattle.memory.specs.Memory.{byte, word, part, start, total}
use Rattle.memory.proofs.Laws.{length_part, length-splice}
use Rattle.memory.proofs.Cores.{length-flat}
use Rattle.protocol.specs.State.{Core, absent, core}
use Rattle.protocol.specs.Variables.{Variable, local, reads_it, writes_it, In, Pairwise, Accepted}
use Rattle.protocol.specs.Laws.{FreshStart}
use Rattle.protocol.specs.Fresh.{fresh_core, zeros}
use Rattle.protocol.proofs.Instance.{fresh-is}
use Rattle.code.specs.declared.Profile.TheVariants.{Full}
use Rattle.code.specs.Code.{judge_code}
use Rattle.code.proofs.Exact.{accepted-code}
use Rattle.records.specs.File.{cores, data_size, variables, record_place, variable_at}
use Rattle.records.specs.Records.{used_by}
use Rattle.records.specs.Rules.{CoreRules, VariableRules}
use Rattle.verdict.proofs.Truth.{either_left}
use Rattle.taskset.specs.Judge.{code_place, code_of, start_place, judge}
use Rattle.taskset.specs.Layout.{base_place, core_at, core_layout}
use Rattle.taskset.specs.Rules.{WellFormed}
use Rattle.taskset.specs.Task.{listed, sizes_of, variables_of}
use Rattle.taskset.specs.Starts.{start_count, with_pairs, start_data, writer_of, with_written, start_shared, starts_of, start_buffer}
use Rattle.taskset.specs.Fresh.{fresh_of}
use Rattle.taskset.proofs.Exact.{keeps-rules, code_inside, records-inside}

-- ---- tables of numbered items

pub length-listed : {A : Type 0} (g : ℕ → A) (n i : ℕ) → length (listed g n i) ≡ n
unfolding listed
length-listed g zero i = refl
length-listed g (suc n) i = ap suc (length-listed g n (suc i))

listed-from : {A : Type 0} (g : ℕ → A) (n i k : ℕ) (d : A) → k < n → get_or (listed g n i) k d ≡ g (i + k)
unfolding listed
listed-from g zero i k d h = absurd (let y : ⊥ = omega arith in y)
listed-from g (suc n) i zero d h = ap g (sym (add-zero i))
listed-from g (suc n) i (suc k) d h = listed-from g n (suc i) k d (omega arith) ∙ ap g (suc-add i k ∙ sym (add-suc i k))

-- item k
pub listed_at : {A : Type 0} (g : ℕ → A) (n k : ℕ) (d : A) → k < n → get_or (listed g n 0) k d ≡ g k
listed_at g n k d h = listed-from g n 0 k d h ∙ ap g (zero-add k)

pub map-listed : {A B : Type 0} (h : A → B) (g : ℕ → A) (n i : ℕ) → map h (listed g n i) ≡ listed (λ k. h (g k)) n i
unfolding listed
map-listed h g zero i = refl
map-listed h g (suc n) i = ap (λ (l : List _). h (g i) ∷ l) (map-listed h g n (suc i))

-- an item of the table has a number
pub record Numbered {A : Type 0} (g : ℕ → A) (n i : ℕ) (x : A) : Type 0 where
  pub number : ℕ
  pub from : i ≤ number
  pub below : number < i + n
  pub is : x ≡ g number

pub numbered : {A : Type 0} (g : ℕ → A) (n i : ℕ) (x : A) → In x (listed g n i) → Numbered g n i x
unfolding listed
numbered g zero i x m = absurd m
numbered g (suc n) i x (inl e) = record { number = i; from = omega arith; below = omega arith; is = e }
numbered g (suc n) i x (inr m) =
    let r = numbered g n (suc i) x m in
    record { number = r.number; from = omega (arith, r.from); below = omega (arith, r.below); is = r.is }

-- what holds of any two items in order holds pairwise
pairwise : (R : Variable → Variable → Type 0) (g : ℕ → Variable) (n i : ℕ) → ((a b : ℕ) → i ≤ a → a < b → b < i + n → R (g a) (g b)) → Pairwise R (listed g n i)
unfolding listed
pairwise R g zero i h = tt
pairwise R g (suc n) i h = (
  (λ u m.
      let r = numbered g n (suc i) u m in
      subst (R (g i)) (sym r.is) (h i r.number (omega arith) (omega (arith, r.from)) (omega (arith, r.below)))),
  pairwise R g n (suc i) (λ a b p q s. h a b (omega arith) q (omega arith)),
)

-- ---- each core's data and code

pub record CoreFacts (f : List ℕ) (k : ℕ) : Type 0 where
  pub record-rules : CoreRules f k
  pub code-accepted : judge_code (code_of f k) ≡ 0
  pub code-length : length (code_of f k) ≡ word f (code_place f k)
  pub some-code : 1 ≤ word f (code_place f k)
  pub most-code : word f (code_place f k) ≤ 8192
  pub code-in-file : code_place f k + 2 + word f (code_place f k) ≤ length f
  pub laid_out : core_layout f k ≡ core_at f k

laid-out-at : (f : List ℕ) (k : ℕ) → k < cores f → core_layout f k ≡ core_at f k
unfolding core_layout
laid-out-at f k h = pick_true _ _ _ (lt-ltb _ _ h)

pub core-facts : (f : List ℕ) → judge f ≡ 0 → (k : ℕ) → k < cores f → CoreFacts f k
core-facts f z k h =
    record {
      record-rules = w.core-rules k h;
      code-accepted = accepted-code Full (code_of f k) (w.code-rules k h);
      code-length = length_part f (code_place f k + 2) (word f (code_place f k)) (code_inside f w.ends k h);
      some-code = w.some-code k h;
      most-code = w.most-code k h;
      code-in-file = code_inside f w.ends k h;
      laid_out = laid-out-at f k h;
    }
  where
    w : WellFormed f
    w = keeps-rules f z

-- the data sizes
pub sizes-length : (f : List ℕ) → length (sizes_of f) ≡ cores f
unfolding sizes_of
sizes-length f = length-listed (data_size f) (cores f) 0

pub sizes-at : (f : List ℕ) (k : ℕ) → k < cores f → get_or (sizes_of f) k 0 ≡ data_size f k
unfolding sizes_of
sizes-at f k h = listed_at (data_size f) (cores f) k 0 h

-- the data of core k begin where the sizes before it end
base-from : (f : List ℕ) (n i k : ℕ) → k ≤ n → start (listed (data_size f) n i) k + base_place f i ≡ base_place f (i + k)
unfolding base_place start listed
base-from f n i zero h = zero-add (base_place f i) ∙ ap (base_place f) (sym (add-zero i))
base-from f zero i (suc k) h = absurd (let y : ⊥ = omega arith in y)
base-from f (suc n) i (suc k) h =
    let ih : start (listed (data_size f) n (suc i)) k + base_place f (suc i) ≡ base_place f (suc i + k) = base-from f n (suc i) k (omega arith) in
    let e : base_place f (i + suc k) ≡ base_place f (suc i + k) = ap (base_place f) (add-suc i k ∙ sym (suc-add i k)) in
    omega arith

pub base-start : (f : List ℕ) (k : ℕ) → k ≤ cores f → base_place f k ≡ start (sizes_of f) k
unfolding sizes_of base_place
base-start f k h =
    let a : start (listed (data_size f) (cores f) 0) k + base_place f 0 ≡ base_place f (0 + k) = base-from f (cores f) 0 k h in
    let b : base_place f (0 + k) ≡ base_place f k = ap (base_place f) (zero-add k) in
    omega arith

-- each variable's record lies in the file
pub record-in-file : (f : List ℕ) → judge f ≡ 0 → (i : ℕ) → i < variables f → record_place f i + 12 ≤ length f
record-in-file f z i h = omega (arith, records-inside f (keeps-rules f z).ends)

-- ---- the fresh state and the variables, as crate `protocol` asks for them

-- the fresh state is one that every list of steps may start from
pub fresh-of : (f : List ℕ) → FreshStart (fresh_of f)
fresh-of f = fresh-is (starts_of f) (start_shared f)

-- it has n cores, and core k has its start values
pub fresh-cores : (f : List ℕ) → length (fresh_of f).plant.cores ≡ cores f
fresh-cores f = length-map (starts_of f) fresh_core ∙ length-listed (start_data f) (cores f) 0

pub fresh-core : (f : List ℕ) (k : ℕ) → k < cores f → core (fresh_of f).plant k ≡ fresh_core (start_data f k)
fresh-core f k h =
    ap (λ (l : List Core). get_or l k absent) (map-listed fresh_core (start_data f) (cores f) 0)
    ∙ listed_at (λ i. fresh_core (start_data f i)) (cores f) k absent h

-- its memories have their sizes
length_pairs : (f : List ℕ) (q n : ℕ) (d : List ℕ) → length (with_pairs f q n d) ≡ length d
unfolding with_pairs
length_pairs f q zero d = refl
length_pairs f q (suc n) d = length_pairs f (q + 3) n (set d (word f q) (byte f (q + 2))) ∙ length-set d (word f q) (byte f (q + 2))

pub length-start : (f : List ℕ) (k : ℕ) → length (start_data f k) ≡ data_size f k
unfolding start_data
length-start f k = length_pairs f (start_place f k + 2) (start_count f k) (zeros (data_size f k)) ∙ length-replicate {A = ℕ} (data_size f k) 0

pub start-sizes : (f : List ℕ) → map length (starts_of f) ≡ sizes_of f
unfolding sizes_of
start-sizes f = map-listed length (start_data f) (cores f) 0 ∙ ap (λ (g : ℕ → ℕ). listed g (cores f) 0) (λ i k. length-start f k i)

pub length-buffer : (f : List ℕ) → length (start_buffer f) ≡ total (sizes_of f)
unfolding start_buffer
length-buffer f = length-flat (starts_of f) ∙ ap total (start-sizes f)

length-written : (data_of : ℕ → List ℕ) (vs : List Variable) (s : List ℕ) → length (with_written data_of vs s) ≡ length s
unfolding with_written
length-written data_of [] s = refl
length-written data_of (v ∷ vs) s = length-written data_of vs _ ∙ length-splice s v.place (part (data_of (writer_of v)) (local (writer_of v) v) v.width)

pub length-shared : (f : List ℕ) → length (start_shared f) ≡ 1024
unfolding start_shared
length-shared f = length-written (start_data f) (variables_of f) (zeros 1024) ∙ length-replicate {A = ℕ} 1024 0

pub fresh-data : (f : List ℕ) (k : ℕ) → k < cores f → length (core (fresh_of f).plant k).memory ≡ data_size f k
fresh-data f k h = ap (λ (c : Core). length c.memory) (fresh-core f k h) ∙ length-start f k

pub variables-accepted : (f : List ℕ) → judge f ≡ 0 → Accepted (variables_of f) (fresh_of f)
unfolding variables_of
variables-accepted f z =
    record {
      one_writer = λ v m j k a b. let r = (rules v m).writer in r.only j a ∙ sym (r.only k b);
      fits-shared = λ v m. subst (λ (n : ℕ). v.place + v.width ≤ n) (sym (length-shared f)) (rules v m).in-shared;
      fits-local = λ v m k t.
          let r = rules v m in
          let n : T (used_by k v) = either_left (reads_it k v) (writes_it k v) t in
          subst (λ (l : ℕ). local k v + v.width ≤ l) (sym (fresh-data f k (r.known k n))) (r.in-data k n);
      clear-shared = pairwise _ (variable_at f) (variables f) 0 (λ a b p q s. (w.no-overlap a b q (omega arith)).in-shared);
      clear-local = λ k.
          pairwise _ (variable_at f) (variables f) 0
          (λ a b p q s x y.
          (w.no-overlap a b q (omega arith)).in-data k
          (either_left (reads_it k (variable_at f a)) (writes_it k (variable_at f a)) x)
          (either_left (reads_it k (variable_at f b)) (writes_it k (variable_at f b)) y));
    }
  where
    w : WellFormed f
    w = keeps-rules f z

    rules : (v : Variable) → In v (listed (variable_at f) (variables f) 0) → VariableRules f v
    rules v m =
        let r = numbered (variable_at f) (variables f) 0 v m in
        subst (VariableRules f) (sym r.is) (w.variable-rules r.number (omega (arith, r.below)))
