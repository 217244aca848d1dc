use borrow.Author.Rules.{rules}
use native.Mathlib.Omega.{arith}
use Rattle.memory.proofs.Words.{disjoint-by}
use Rattle.memory.proofs.copy_within.Goals as goal

pub move_words-requires : goal.move_words-requires
move_words-requires c = (search rules, search rules, disjoint-by _ _ _ (omega (arith, c.abs_diff.ensures)))
