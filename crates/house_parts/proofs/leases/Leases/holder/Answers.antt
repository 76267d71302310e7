use Rattle.std.proofs.Common.{ap, rules, ◌∙◌}
use Rattle.std.specs.Option.{option_flatten}
use Rattle.house_parts.specs.Holding.{holder_of}
use Rattle.house_parts.proofs.Placing.{holder_got}
use Rattle.house_parts.proofs.leases.Leases.holder.Goals as goal

pub returns : goal.returns
unfolding holder_of
returns c = c.flatten.ensures ∙ ap option_flatten c.copied.ensures ∙ holder_got c.args.self.now.users c.args.unit c.get.result (search rules) c.get.ensures.lookup
