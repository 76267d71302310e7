use Rattle.std.proofs.Common.{ap, ◌∙◌}
use Rattle.refusals.specs.Said.{said}
use Rattle.requests.specs.Sites.{site_of}
use Rattle.requests.proofs.Leaving.{opened_to}
use Rattle.requests.proofs.site.Site.open.Goals as goal

pub returns : goal.returns
returns g c =
    let p = site_of c.args.self.now in
    let e = c.open.ensures in
    record {
      answer = c.into.ensures ∙ ap said e.answer;
      after = opened_to p c.args.draft.now _ _ _ e.answer e.draft e.state;
    }
