use Rattle.std.proofs.Common.{replicate, refl}
use Rattle.tables.specs.declared.draft.Draft.{Draft}
use Rattle.tables.proofs.Counts.{none_counted}
use Rattle.tables.proofs.Relating.{related_none}
use Rattle.tables.proofs.draft.Draft.new.Goals as goal

pub returns : goal.returns
returns c =
    let d : Draft = record {
      number = 0;
      counts = replicate 8 0;
      permissions = c.empty.result;
      role_pairs = c.empty-2.result;
      entries = c.empty-3.result;
      relations = replicate 12 c.new.result;
    } in
    (refl, none_counted d refl c.empty.ensures c.empty-2.ensures c.empty-3.ensures, related_none d c.new.result refl c.new.ensures)
