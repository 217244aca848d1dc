-- What a writer of a text leaves, for every input: document 01's refusal 21, "any lent output too short", where the lent bytes can't hold the
-- text; then no byte changes. Not here: the texts themselves (specs/Listing).
use Rattle.std.specs.Prelude.{ℕ, List, length, ltb, Result, Ok, Err}
use Rattle.verdict.specs.Verdict.{pick}
use Rattle.memory.specs.Memory.{splice}
use Rattle.verdict.specs.declared.Refusal.{Refusal}
use Rattle.verdict.specs.declared.Refusal.TheVariants.{BadLengths}
use Rattle.verdict.specs.Refusals.{refusal_of}

-- the answer with its refusal number, 0 for none, and every lent byte
pub record TextLeft : Type 0 where
  pub answer : Result ℕ Refusal
  pub number : ℕ
  pub bytes : List ℕ

abbrev pub text_left : Result ℕ Refusal → List ℕ → TextLeft
text_left w bytes = record { answer = w; number = refusal_of w; bytes = bytes }

-- the text at the front of the lent bytes, and its length; bytes after it stay
unfoldable pub text_call : List ℕ → List ℕ → TextLeft
text_call text out =
    pick (ltb (length out) (length text))
    (record { answer = Err BadLengths; number = 21; bytes = out })
    (record { answer = Ok (length text); number = 0; bytes = splice out 0 text })
