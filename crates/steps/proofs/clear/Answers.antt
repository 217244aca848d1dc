-- `steps::clear` meets its contract. Assumes nothing.
use Rattle.std.proofs.Common.{◌≡◌, ◌∙◌, ℕ, ap, refl, length, replicate, take, rules, arith}
use Rattle.std.proofs.lemmas.List.{length-replicate, length-take-le}
use Rattle.memory.proofs.Turns.{put_part}
use Rattle.steps.proofs.clear.Goals as goal

pub returns : goal.returns
returns c =
    let filled : c.fill.new.self ≡ replicate (length (take c.args.n c.args.d.now)) 0 = search rules in
    let long : length (take c.args.n c.args.d.now) ≡ c.args.n = length-take-le c.args.n c.args.d.now c.requires in
    put_part c.args.d.now c.fill.new.self (replicate c.args.n 0) 0 c.args.n c.args.n (omega arith) (filled ∙ ap (λ (m : ℕ). replicate m 0) long) (length-replicate c.args.n 0) refl
