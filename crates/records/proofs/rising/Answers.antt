-- Each memory in its turn.
use Rattle.verdict.proofs.Verdict.{absurd-bool}
use Rattle.records.proofs.Order.{each-core}
use Rattle.records.proofs.rising.Goals as goal

pub returns-then-not-rising_shared : goal.returns-then-not-rising_shared
returns-then-not-rising_shared c = λ e. absurd-bool e

pub returns-then-not-rising_in : goal.returns-then-not-rising_in
returns-then-not-rising_in c = λ e. absurd-bool e

pub returns-then-not-rising_in-2 : goal.returns-then-not-rising_in-2
returns-then-not-rising_in-2 c = λ e. absurd-bool e

pub returns-then-not-rising_in-3 : goal.returns-then-not-rising_in-3
returns-then-not-rising_in-3 c = λ e. absurd-bool e

pub returns : goal.returns
returns c = λ e. record {
  shared = c.rising_shared.ensures (c.if-not-rising_shared.false);
  each = each-core _ _ (c.rising_in.ensures (c.if-not-rising_in.false)) (c.rising_in-2.ensures (c.if-not-rising_in-2.false))
      (c.rising_in-3.ensures (c.if-not-rising_in-3.false)) (c.rising_in-4.ensures e);
}
