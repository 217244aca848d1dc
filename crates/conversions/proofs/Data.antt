-- Laws of how a conversion ends, over the types t of its destination and u of its source. In order: what the test of the addresses gives;
-- the ways that an instruction ends; the data keep their size. Assumes nothing.
use Rattle.std.proofs.Common.{◌≡◌, ℕ, ◌+◌, ◌≤◌, Bool, true, false, List, length, sym, refl, ap, ◌∙◌}
use Rattle.std.specs.Prelude.{Result as Answer, Err}
use Rattle.verdict.specs.declared.Fault.{Fault}
use Rattle.verdict.specs.declared.Fault.TheVariants.{Address}
use Rattle.verdict.proofs.Verdict.{pick_true, pick-false, by-pick}
use Rattle.memory.proofs.Laws.{length-splice}
use Rattle.values.specs.Types.{width_of}
use Rattle.values.specs.Commands.{beyond, any_beyond}
use Rattle.commands.proofs.Attempts.{either-false, in-data}
use Rattle.conversions.specs.Conversions.{Result, stores, not-held}
use Rattle.conversions.specs.Data.{Ended, ended, settled, tried}

-- ---- what the test of the addresses gives

module _ (size to n source m t u : ℕ) (r : Bool) (e : r ≡ any_beyond size to n source m) (wide : n ≡ width_of t) (long : m ≡ width_of u) where
  tested : r ≡ any_beyond size to (width_of t) source (width_of u)
  tested = e ∙ ap (λ (x : ℕ). any_beyond size to x source m) wide ∙ ap (λ (x : ℕ). any_beyond size to (width_of t) source x) long

  pub to_in : r ≡ false → to + width_of t ≤ size
  to_in f = in-data size to (width_of t) (either-false (beyond size to (width_of t)) (beyond size source (width_of u)) (sym tested ∙ f)).0

  pub source_in : r ≡ false → source + width_of u ≤ size
  source_in f = in-data size source (width_of u) (either-false (beyond size to (width_of t)) (beyond size source (width_of u)) (sym tested ∙ f)).1

-- ---- the ways that an instruction ends

module _ (s : List ℕ) (to n source m t u : ℕ) (r : Bool) (e : r ≡ any_beyond (length s) to n source m) (wide : n ≡ width_of t) (long : m ≡ width_of u) (x : Result) where
  pub was-beyond : r ≡ true → ended (Err Address) s ≡ tried t u s to source x
  unfolding tried
  was-beyond f = sym (pick_true _ _ _ (sym (tested (length s) to n source m t u r e wide long) ∙ f))

  pub was-tried : r ≡ false → (p : Answer (Unit {0}) Fault) (z : List ℕ) → ended p z ≡ settled t s to x → ended p z ≡ tried t u s to source x
  unfolding tried
  was-tried f p z h = h ∙ sym (pick-false _ _ _ (sym (tested (length s) to n source m t u r e wide long) ∙ f))

-- ---- the data keep their size

settled-length : (t : ℕ) (s : List ℕ) (to : ℕ) (x : Result) → length (settled t s to x).memory ≡ length s
settled-length t s to (stores p) = length-splice s to _
settled-length t s to not-held = refl

pub tried-length : (t u : ℕ) (s : List ℕ) (to source : ℕ) (x : Result) → length (tried t u s to source x).memory ≡ length s
unfolding tried
tried-length t u s to source x = by-pick (λ (e : Ended). length e.memory ≡ length s) _ _ _ (λ _. refl) (λ _. settled-length t s to x)
