use Rattle.std.proofs.Common.{◌≡◌, true, get_or, None, sym, ◌∙◌, rules}
use Rattle.std.proofs.lemmas.Bool.{cond-true}
use Rattle.replays.specs.Holding.{held_of, is_lease}
use Rattle.replays.proofs.Places.{held_at, held_with, held_below, held_is}
use Rattle.replays.proofs.held.HeldLeases.remove.Goals as goal

pub bounds-self-numbers : goal.bounds-self-numbers
bounds-self-numbers c = held_below c.args.self.now.by_unit c.args.numbers (search rules)

pub returns : goal.returns
returns c =
    let k = c.args.numbers in
    let xs = c.args.self.now.by_unit in
    let t : is_lease (held_of c.args.self.now k.unit) k ≡ true = search rules in
    let h = held_below xs k t in
    let e : get_or xs k.unit None ≡ c.take.result = search rules in
    record {
      answer = sym (held_at xs k.unit _ h e) ∙ held_is _ k t ∙ sym (cond-true _ _ _ t);
      after = held_with xs _ k.unit None h (search rules) (search rules) ∙ sym (cond-true _ _ _ t);
    }
