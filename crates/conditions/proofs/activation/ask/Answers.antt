use Rattle.std.proofs.Common.{sym}
use Rattle.rows.specs.Rows.{numbers}
use Rattle.search.proofs.Finds.{first_at}
use Rattle.conditions.proofs.Asking.{count_less, known_found, known_lacking, left_first, left_next, asked_all, asked_lacking, asked_before}
use Rattle.conditions.proofs.activation.ask.Goals as goal

pub returns-then-meets : goal.returns-then-meets
returns-then-meets g c = record { known = c.requires; asked = asked_before _ _ _ _ c.requires c.if-meets.ensures }

pub loop-condition-init : goal.loop-condition-init
loop-condition-init g c = record { known = c.requires; left = left_first _ _ _ c.without-left.ensures }

pub loop-condition-preserved : goal.loop-condition-preserved
loop-condition-preserved g c =
    let f = first_at (numbers c.loop-condition.left) 32 c.in-Some.condition (sym c.in-Some.ensures) in
    let i = c.loop-condition.invariant in
    let e = c.insert-in-Some.ensures.after in
    record {
      known = known_found _ _ _ _ _ i.known c.if-not-holds.ensures e;
      left = left_next _ _ _ _ _ c.in-Some.condition f.0 i.left e c.remove.ensures.after;
    }

pub loop-condition-smaller : goal.loop-condition-smaller
loop-condition-smaller g c =
    let f = first_at (numbers c.loop-condition.left) 32 c.in-Some.condition (sym c.in-Some.ensures) in
    count_less _ _ c.in-Some.condition 32 f.0 f.1 c.remove.ensures.after

pub returns-then-not-holds : goal.returns-then-not-holds
returns-then-not-holds g c =
    let f = first_at (numbers c.loop-condition.left) 32 c.in-Some.condition (sym c.in-Some.ensures) in
    let i = c.loop-condition.invariant in
    let h = c.if-not-holds.ensures in
    record {
      known = known_lacking _ _ _ _ _ i.known h c.insert.ensures.after;
      asked = asked_lacking _ _ _ c.in-Some.condition (i.left.is_wanted c.in-Some.condition f.1) h;
    }

pub returns : goal.returns
returns g c =
    let i = c.loop-condition.invariant in
    record { known = i.known; asked = λ _. asked_all _ _ c.loop-condition.left i.left c.in_default.ensures }
