use Rattle.std.proofs.Common.{◌≡◌, length, rules}
use Rattle.tables.proofs.Counts.{listed_first}
use Rattle.tables.proofs.items.Items.listed.Goals as goal

pub returns : goal.returns
returns g c =
    let l = c.args.self.now in
    let n : length l.places ≡ 64 = search rules in
    listed_first l.count c.min-count.result l.places n c.min-count.ensures
