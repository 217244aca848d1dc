-- What a writer leaves: the text, or 21 and nothing; and how long a listing is. Assumes nothing.
use mathlib.Core.Path.{◌≡◌, refl, sym, ap, ap₂, ◌∙◌}
use mathlib.Core.List.{[], List, ◌∷◌, ◌++◌, map, append_assoc}
use Prim.Native.Nat.{ℕ, ◌+◌, ◌*◌, ◌≤◌, ◌<◌, min}
use native.Mathlib.Omega.{arith}
use borrow.Author.Tests.{lt-ltb, le-ltb}
use lib.ListN.{length, take, length-append, length-take}
use Rattle.verdict.proofs.Verdict.{pick_true, pick-false}
use Rattle.memory.specs.Memory.{splice, flat}
use Rattle.states.specs.declared.Held.{Held}
use Rattle.std.specs.Prelude.{Ok, Err}
use Rattle.verdict.specs.declared.Refusal.TheVariants.{BadLengths}
use Rattle.listing.specs.Listing.{line_feed, taking_text, order_line, head, listing}
use Rattle.listing.specs.Writers.{text_left, text_call}

-- ---- the answers

pub text-short : (text out : List ℕ) → length out < length text → text_left (Err BadLengths) out ≡ text_call text out
unfolding text_call
text-short text out l = sym (pick_true _ _ _ (lt-ltb _ _ l))

pub text-written : (text out : List ℕ) {n : ℕ} {now : List ℕ} → length text ≤ length out → n ≡ length text → now ≡ splice out 0 text
    → text_left (Ok n) now ≡ text_call text out
unfolding text_call
text-written text out l e q = ap₂ (λ (m : ℕ) (x : List ℕ). text_left (Ok m) x) e q ∙ sym (pick-false _ _ _ (le-ltb _ _ l))

-- ---- a listing's length

pub listing-head : (n : ℕ) (s : Held) (takings : List ℕ) → listing n s takings ≡ head n s ++ (flat (map taking_text takings) ++ (line_feed ∷ []))
unfolding listing head order_line
listing-head n s takings = simp append_assoc

length-takings : (takings : List ℕ) → length (flat (map taking_text takings)) ≡ 3 * length takings
unfolding flat taking_text
length-takings [] = refl
length-takings (b ∷ bs) = omega (arith, length-takings bs)

pub length-listing : (n : ℕ) (s : Held) (list : List ℕ) (taken : ℕ) → length (listing n s (take taken list)) ≡ length (head n s) + 3 * min taken (length list) + 1
length-listing n s list taken =
    let l = take taken list in
    ap length (listing-head n s l)
    ∙ omega (arith, length-append (head n s) (flat (map taking_text l) ++ (line_feed ∷ [])), length-append (flat (map taking_text l)) (line_feed ∷ []), length-takings l, length-take taken list)
