use Rattle.std.proofs.Common.{◌≡◌, true, get_or, Some, None, sym, ap, ◌∙◌, rules}
use Rattle.replays.specs.Holding.{same_numbers}
use Rattle.replays.proofs.Places.{lease_at, lease_past, numbers_same, fields_same}
use Rattle.replays.proofs.held.HeldLeases.get.Goals as goal
use Rattle.replays.proofs.held.HeldLeases.get.Goals.{in_default-via-in-Some+else-eq, in_default-via-in_default}

pub returns-then-numbers-ge-UNITS : goal.returns-then-numbers-ge-UNITS
returns-then-numbers-ge-UNITS c = sym (lease_past _ c.args.numbers c.if-numbers-ge-UNITS.true)

pub returns-in-Some : goal.returns-in-Some
returns-in-Some c =
    let k = c.args.numbers in
    let xs = c.args.self.now.by_unit in
    let e : get_or xs k.unit None ≡ Some c.in-Some.lease = search rules in
    let s = fields_same c.numbers.result k true c.if-eq.ensures ∙ ap (λ n. same_numbers n k) c.numbers.ensures in
    (numbers_same c.in-Some.lease.numbers k s, sym (s ∙ lease_at xs k (Some c.in-Some.lease) c.if-numbers-ge-UNITS.false e))

pub returns-in_default : goal.returns-in_default
returns-in_default c =
    let k = c.args.numbers in
    let xs = c.args.self.now.by_unit in
    elim c.in_default.branch [
      | in_default-via-in-Some+else-eq w ↦
          let e : get_or xs k.unit None ≡ Some w.in-Some.lease = search rules in
          let s = fields_same w.numbers.result k _ w.if-eq.ensures ∙ ap (λ n. same_numbers n k) w.numbers.ensures in
          sym (s ∙ lease_at xs k (Some w.in-Some.lease) c.if-numbers-ge-UNITS.false e)
      | in_default-via-in_default w ↦
          let e : get_or xs k.unit None ≡ None = search rules in
          sym (lease_at xs k None c.if-numbers-ge-UNITS.false e)
    ]
