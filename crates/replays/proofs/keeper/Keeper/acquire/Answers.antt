use Rattle.std.proofs.Common.{◌<◌, ap}
use Rattle.house.specs.Views.{draft_of, state_of}
use Rattle.replays.specs.Holding.{held_of}
use Rattle.replays.specs.Keeping.{draft_in, state_in}
use Rattle.replays.proofs.Tying.{tie_acquired, unit_below, no_other}
use Rattle.rules.specs.declared.call.LeaseNumbers.{LeaseNumbers}
use Rattle.replays.proofs.keeper.Keeper.acquire.Goals as goal

pub invariant_of-self-in-None : goal.invariant_of-self-in-None
invariant_of-self-in-None g c =
    let d = draft_in c.args.self.now in
    let s = state_in c.args.self.now in
    let h = held_of c.args.self.now.held in
    let e = c.in_ok-lease.ensures in
    let k = c.in_ok-lease.lease.numbers in
    let b : k.unit < 16 = rw (ap (λ (x : LeaseNumbers). x.unit) e.lease) (unit_below d s c.args.unit c.args.user e.answer) in record {
      tied = tie_acquired d (draft_of c.acquire.new.self) s (state_of c.acquire.new.self) c.args.unit c.args.user k h (held_of c.insert.new.self)
          e.answer e.same e.after e.lease (c.insert.ensures.after b) c.args.self.now.tied;
    }

-- no lease of the unit was held before
pub invariant_of-self-in-Some : goal.invariant_of-self-in-Some
invariant_of-self-in-Some g c =
    let d = draft_in c.args.self.now in
    let s = state_in c.args.self.now in
    let h = held_of c.args.self.now.held in
    let e = c.in_ok-lease.ensures in
    absurd (no_other d s c.args.unit c.args.user e.answer h c.in_ok-lease.lease.numbers c.in-Some.other.numbers c.args.self.now.tied e.lease c.in-Some.ensures.answer)

pub returns-in-Some : goal.returns-in-Some
returns-in-Some g c =
    let d = draft_in c.args.self.now in
    let s = state_in c.args.self.now in
    let h = held_of c.args.self.now.held in
    let e = c.in_ok-lease.ensures in
    absurd (no_other d s c.args.unit c.args.user e.answer h c.in_ok-lease.lease.numbers c.in-Some.other.numbers c.args.self.now.tied e.lease c.in-Some.ensures.answer)
