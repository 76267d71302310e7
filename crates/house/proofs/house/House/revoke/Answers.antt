use Rattle.std.proofs.Common.{◌≡◌, true, false, is_ok, Ok, Err, refl, rules}
use Rattle.refusals.specs.Said.{said}
use Rattle.refusals.specs.declared.refusal.Refusal.TheVariants.{NotAssigned}
use Rattle.house.specs.Changing.{change_reasons}
use Rattle.house.specs.Views.{draft_of, state_of}
use Rattle.house.proofs.Rules.{stopped, stopped_left, not_there, revoked, unrevoked, revoked_left, revoke_by_rules, remove_sound}
use Rattle.house.proofs.house.House.revoke.Goals as goal

pub returns-in_err-check_change : goal.returns-in_err-check_change
returns-in_err-check_change g c =
    let d = draft_of c.args.self.now in
    let s = state_of c.args.self.now in
    let k = c.args.lease.now.numbers in
    let x = c.args.spot in
    let r = c.from_residual.result in
    let t = c.in_err-check_change.ensures.answer in
    let h : is_ok r ≡ false = search rules in
    let e : said r ≡ change_reasons d s k x = search rules in
    let column = stopped r _ _ h e in
    let left = stopped_left r _ _ s _ h e in
    let both = revoke_by_rules d s k x r s column left in
    record { column = column; left = left; answer = both.0; after = both.1; same = refl }

pub returns-then-not-contains : goal.returns-then-not-contains
returns-then-not-contains g c =
    let d = draft_of c.args.self.now in
    let s = state_of c.args.self.now in
    let k = c.args.lease.now.numbers in
    let x = c.args.spot in
    let p : s.pairs x ≡ false = search rules in
    let column = not_there d s k x c.in_ok-check_change.ensures.answer p in
    let left = unrevoked d s k x NotAssigned column in
    let both = revoke_by_rules d s k x (Err NotAssigned) s column left in
    record { column = column; left = left; answer = both.0; after = both.1; same = refl }

pub invariant_of-self : goal.invariant_of-self
invariant_of-self g c =
    record {
      lawful = c.args.self.now.lawful;
      sound = remove_sound (draft_of c.args.self.now) (state_of c.args.self.now) c.args.lease.now.numbers c.args.spot _ c.args.self.now.sound c.remove.ensures;
    }

pub returns : goal.returns
returns g c =
    let d = draft_of c.args.self.now in
    let s = state_of c.args.self.now in
    let k = c.args.lease.now.numbers in
    let x = c.args.spot in
    let p : s.pairs x ≡ true = search rules in
    let column = revoked d s k x c.in_ok-check_change.ensures.answer p in
    let left = revoked_left d s k x _ c.remove.ensures column in
    let both = revoke_by_rules d s k x (Ok tt) _ column left in
    record { column = column; left = left; answer = both.0; after = both.1; same = refl }
