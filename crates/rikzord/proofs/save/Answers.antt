-- `rikzord::save` meets its contract: of a refused call nothing is stored; else the four records, and the semaphore. Assumes nothing.
use mathlib.Core.Path.{refl, sym, ap, ◌∙◌}
use mathlib.Core.List.{List}
use lib.ListN.{set}
use borrow.Author.Tests.{eq-eqb, ne_eqb}
use Rattle.verdict.proofs.Verdict.{pick_true, pick-false}
use Rattle.snapshot.specs.declared.CoreRecord.{CoreRecord}
use Rattle.rikzord.proofs.save.Goals as goal

pub returns-then-x-ne0 : goal.returns-then-x-ne0
returns-then-x-ne0 c =
    let no = ne_eqb c.args.x.refusal 0 c.if-x-ne0.true in
    (sym (pick-false _ _ _ no), (sym (pick-false _ _ _ no), refl))

pub returns : goal.returns
returns c =
    let x = c.args.x in
    let yes = eq-eqb x.refusal 0 c.if-x-ne0.false in (
      c.put_or-4.ensures
          ∙ ap (λ (l : List CoreRecord). set l 3 x.d)
          (c.put_or-3.ensures
          ∙ ap (λ (l : List CoreRecord). set l 2 x.c) (c.put_or-2.ensures ∙ ap (λ (l : List CoreRecord). set l 1 x.b) c.put_or.ensures))
          ∙ sym (pick_true _ _ _ yes),
      (sym (pick_true _ _ _ yes), sym c.if-x-ne0.false),
    )
