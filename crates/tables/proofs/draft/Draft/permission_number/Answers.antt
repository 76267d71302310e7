use Rattle.std.proofs.Common.{rules, tests}
use Rattle.search.proofs.Ranges.{find_below}
use Rattle.tables.specs.Drafts.{is_permission_lem}
use Rattle.tables.proofs.draft.Draft.permission_number.Goals as goal

pub returns : goal.returns
returns c = find_below (is_permission_lem c.args.self.now c.args.device c.args.operation) 64 _ _ _ c.find.ensures.ran (λ x b q k. search (rules, tests))
