use Rattle.std.proofs.Common.{arith}
use Rattle.drafting.proofs.Gathered.{none_yet, one_more}
use Rattle.drafting.proofs.listing.set_from.Goals as goal

pub loop-place-init : goal.loop-place-init
loop-place-init c = (none_yet _ c.args.from _ _ (omega arith) c.new-row.ensures.exact, omega arith)

pub loop-place-preserved : goal.loop-place-preserved
loop-place-preserved c = (one_more _ c.args.from _ _ c.loop-place.place _ (omega arith) c.loop-place.invariant.0 c.number.ensures c.insert.ensures.exact, omega arith)
