use Rattle.std.proofs.Common.{◌≡◌, true, false, is_ok, ap, ◌∙◌, rules}
use Rattle.refusals.specs.Said.{said}
use Rattle.house.specs.Views.{draft_of, state_of}
use Rattle.rules.specs.Judging.{judge}
use Rattle.rules.specs.declared.call.Call.{Call}
use Rattle.requests.proofs.Chains.{first_refused, last_answer, stopped, stopped_left, chain_left, chain_answer}
use Rattle.requests.proofs.changing.change_at.Goals as goal

pub returns-in_err-lease : goal.returns-in_err-lease
returns-in_err-lease g c =
    let d = draft_of c.args.house.now in
    let s = state_of c.args.house.now in
    let r = c.from_residual.result in
    let t = c.in_err-lease.ensures.answer in
    let h : is_ok r ≡ false = search rules in
    let e : said r ≡ judge d s (Call.Acquire c.args.unit c.args.user) = search rules in
    record {
      answer = stopped d s c.args.user c.args.unit c.args.change c.args.spot r h e;
      after = stopped_left d s c.args.user c.args.unit c.args.change c.args.spot r _ h e c.acquire.ensures.after;
      same = c.acquire.ensures.same;
    }

pub returns-in_err-changed : goal.returns-in_err-changed
returns-in_err-changed g c =
    let d = draft_of c.args.house.now in
    let s = state_of c.args.house.now in
    let d₁ = draft_of c.acquire.new.self in
    let s₁ = state_of c.acquire.new.self in
    let d₂ = draft_of c.change_under-changed.new.house in
    let s₂ = state_of c.change_under-changed.new.house in
    let k = c.in_ok-lease.lease.numbers in
    let a = c.acquire.ensures in
    let l = c.in_ok-lease.ensures in
    let u = c.change_under-changed.ensures in
    let v = c.release-released.ensures in
    let b = c.change_under-changed.result in
    let r = c.from_residual-in_err-changed.result in
    let was = c.in_err-changed.was in
    let n : is_ok b ≡ false = ap is_ok was in
    let f : said r ≡ said b = search rules in
    record {
      answer = chain_answer d s c.args.user c.args.unit c.args.change c.args.spot l.answer d₁ d₂ s₁ s₂ k a.after a.same l.lease u.after u.same _ _ _ u.answer v.answer (first_refused b c.release-released.result r n f);
      after = chain_left d s c.args.user c.args.unit c.args.change c.args.spot l.answer d₁ d₂ s₁ s₂ k a.after a.same l.lease u.after u.same _ v.after;
      same = v.same ∙ (u.same ∙ a.same);
    }

pub returns : goal.returns
returns g c =
    let d = draft_of c.args.house.now in
    let s = state_of c.args.house.now in
    let d₁ = draft_of c.acquire.new.self in
    let s₁ = state_of c.acquire.new.self in
    let d₂ = draft_of c.change_under-changed.new.house in
    let s₂ = state_of c.change_under-changed.new.house in
    let k = c.in_ok-lease.lease.numbers in
    let a = c.acquire.ensures in
    let l = c.in_ok-lease.ensures in
    let u = c.change_under-changed.ensures in
    let v = c.release-released.ensures in
    let b = c.change_under-changed.result in
    let n : is_ok b ≡ true = ap is_ok c.in_ok-changed.was in
    record {
      answer = chain_answer d s c.args.user c.args.unit c.args.change c.args.spot l.answer d₁ d₂ s₁ s₂ k a.after a.same l.lease u.after u.same _ _ _ u.answer v.answer (last_answer b c.release-released.result n);
      after = chain_left d s c.args.user c.args.unit c.args.change c.args.spot l.answer d₁ d₂ s₁ s₂ k a.after a.same l.lease u.after u.same _ v.after;
      same = v.same ∙ (u.same ∙ a.same);
    }
