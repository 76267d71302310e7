use Rattle.std.proofs.Common.{rules, tests}
use Rattle.std.proofs.option.Match.{if_some, if_none}
use Rattle.records.proofs.Breaks.{break_behind}
use Rattle.records.proofs.read.behind_break.Goals as goal

pub returns-in-Some-clause-behind : goal.returns-in-Some-clause-behind
returns-in-Some-clause-behind c = if_some _ _ _ c.in-Some.is (break_behind (λ p q w k. search (rules, tests)) (λ p q w k. search (rules, tests)) c.args.text.now c.args.from c.windows.result _ _ _ c.windows.ensures.rest c.windows.ensures.size c.position.ensures.ran)

pub returns-in-None-clause-behind : goal.returns-in-None-clause-behind
returns-in-None-clause-behind c = if_none _ _ c.in-None.is (break_behind (λ p q w k. search (rules, tests)) (λ p q w k. search (rules, tests)) c.args.text.now c.args.from c.windows.result _ _ _ c.windows.ensures.rest c.windows.ensures.size c.position.ensures.ran)
