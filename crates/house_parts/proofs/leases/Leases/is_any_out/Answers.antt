use Rattle.std.proofs.Common.{is_some, rules, tests, ◌∙◌}
use Rattle.std.proofs.lemmas.Iterator.{YieldsList-from_slice}
use Rattle.std.proofs.lemmas.Iterator.Search.{any_from_yields_List}
use Rattle.house_parts.specs.Holding.{holder_of}
use Rattle.house_parts.proofs.Placing.{place_taken}
use Rattle.house_parts.proofs.leases.Leases.is_any_out.Goals as goal

pub returns : goal.returns
unfolding holder_of
returns c =
    any_from_yields_List is_some _ _ _ c.any.ensures.ran (YieldsList-from_slice c.args.self.now.users cc) (λ x b q k. search (rules, tests))
    ∙ place_taken c.args.self.now.users (search rules)
