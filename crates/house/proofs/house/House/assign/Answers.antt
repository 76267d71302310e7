use Rattle.std.proofs.Common.{◌≡◌, true, false, is_ok, Ok, Err, refl, rules}
use Rattle.refusals.specs.Said.{said}
use Rattle.refusals.specs.declared.refusal.Refusal.TheVariants.{AlreadyAssigned, WouldReachBarredPermission}
use Rattle.rules.specs.Reaching.{column_barred}
use Rattle.house.specs.Changing.{change_reasons}
use Rattle.house.specs.Views.{draft_of, state_of}
use Rattle.house.proofs.Rules.{stopped, stopped_left, already, would_reach, accepted, unassigned, assigned_left, assign_by_rules, insert_sound}
use Rattle.house.proofs.house.House.assign.Goals as goal

pub returns-in_err-check_change : goal.returns-in_err-check_change
returns-in_err-check_change g c =
    let d = draft_of c.args.self.now in
    let s = state_of c.args.self.now in
    let k = c.args.lease.now.numbers in
    let x = c.args.spot in
    let r = c.from_residual.result in
    let t = c.in_err-check_change.ensures.answer in
    let h : is_ok r ≡ false = search rules in
    let e : said r ≡ change_reasons d s k x = search rules in
    let column = stopped r _ _ h e in
    let left = stopped_left r _ _ s _ h e in
    let both = assign_by_rules d s k x c.args.self.now.sound r s column left in
    record { column = column; left = left; answer = both.0; after = both.1; same = refl }

pub returns-then-contains : goal.returns-then-contains
returns-then-contains g c =
    let d = draft_of c.args.self.now in
    let s = state_of c.args.self.now in
    let k = c.args.lease.now.numbers in
    let x = c.args.spot in
    let p : s.pairs x ≡ true = search rules in
    let column = already d s k x c.in_ok-check_change.ensures.answer p in
    let left = unassigned d s k x AlreadyAssigned column in
    let both = assign_by_rules d s k x c.args.self.now.sound (Err AlreadyAssigned) s column left in
    record { column = column; left = left; answer = both.0; after = both.1; same = refl }

pub returns-then-would_reach_barred : goal.returns-then-would_reach_barred
returns-then-would_reach_barred g c =
    let d = draft_of c.args.self.now in
    let s = state_of c.args.self.now in
    let k = c.args.lease.now.numbers in
    let x = c.args.spot in
    let p : s.pairs x ≡ false = search rules in
    let q : column_barred d s.pairs x ≡ true = search rules in
    let column = would_reach d s k x c.in_ok-check_change.ensures.answer p q in
    let left = unassigned d s k x WouldReachBarredPermission column in
    let both = assign_by_rules d s k x c.args.self.now.sound (Err WouldReachBarredPermission) s column left in
    record { column = column; left = left; answer = both.0; after = both.1; same = refl }

pub invariant_of-self-2 : goal.invariant_of-self-2
invariant_of-self-2 g c =
    let d = draft_of c.args.self.now in
    let s = state_of c.args.self.now in
    let q : column_barred d s.pairs c.args.spot ≡ false = search rules in
    record {
      lawful = c.args.self.now.lawful;
      sound = insert_sound d s c.args.lease.now.numbers c.args.spot _ c.args.self.now.sound (c.in_ok-check_change.ensures.known refl) q c.insert.ensures;
    }

pub returns : goal.returns
returns g c =
    let d = draft_of c.args.self.now in
    let s = state_of c.args.self.now in
    let k = c.args.lease.now.numbers in
    let x = c.args.spot in
    let p : s.pairs x ≡ false = search rules in
    let q : column_barred d s.pairs x ≡ false = search rules in
    let column = accepted d s k x c.in_ok-check_change.ensures.answer p q in
    let left = assigned_left d s k x _ c.insert.ensures column in
    let both = assign_by_rules d s k x c.args.self.now.sound (Ok tt) _ column left in
    record { column = column; left = left; answer = both.0; after = both.1; same = refl }
