use Rattle.std.proofs.Common.{sym, ap, ◌∙◌}
use Rattle.house.specs.Views.{draft_of, state_of}
use Rattle.rules.specs.Judging.{after}
use Rattle.rules.specs.declared.call.Call.TheVariants.{Release}
use Rattle.replays.specs.Holding.{numbers_in, held_of}
use Rattle.replays.specs.Keeping.{draft_in, state_in}
use Rattle.replays.proofs.Places.{removed, some_there}
use Rattle.replays.proofs.Tying.{tie_released, taken_back}
use Rattle.replays.proofs.keeper.Keeper.release.Goals as goal

pub invariant_of-self-2 : goal.invariant_of-self-2
invariant_of-self-2 g c =
    let d = draft_in c.args.self.now in
    let s = state_in c.args.self.now in
    let h = held_of c.args.self.now.held in
    let o = some_there c.remove.result c.ok_or.result _ _ c.ok_or.ensures.value c.in_ok-lease.was in
    let r = removed h c.args.lease (held_of c.remove.new.self) c.in_ok-lease.lease.numbers (sym (ap numbers_in o) ∙ c.remove.ensures.answer) c.remove.ensures.after in record {
      tied = tie_released d (draft_of c.release.new.self) s (state_of c.release.new.self) c.args.lease h (held_of c.remove.new.self)
          (taken_back d s h c.args.lease c.args.self.now.tied r.there) c.release.ensures.same (c.release.ensures.after ∙ ap (λ k. after d s (Release k)) r.same) r.rest c.args.self.now.tied;
    }

pub returns-clause-after : goal.returns-clause-after
returns-clause-after g c =
    let d = draft_in c.args.self.now in
    let s = state_in c.args.self.now in
    let h = held_of c.args.self.now.held in
    let o = some_there c.remove.result c.ok_or.result _ _ c.ok_or.ensures.value c.in_ok-lease.was in
    let r = removed h c.args.lease (held_of c.remove.new.self) c.in_ok-lease.lease.numbers (sym (ap numbers_in o) ∙ c.remove.ensures.answer) c.remove.ensures.after in
    c.release.ensures.after ∙ ap (λ k. after d s (Release k)) r.same
