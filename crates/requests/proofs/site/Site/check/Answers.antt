use Rattle.requests.specs.Calls.{gathered}
use Rattle.requests.specs.Sites.{site_of, holding}
use Rattle.requests.proofs.Sources.{conditions_are}
use Rattle.requests.proofs.site.Site.check.Goals as goal

pub returns : goal.returns
returns g c =
    let p = site_of c.args.self.now in
    c.check_access.ensures (gathered (holding p)) (conditions_are c.args.self.now.board c.args.self.now.clock _ c.new-source.ensures)
