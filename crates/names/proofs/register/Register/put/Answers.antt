use Rattle.std.proofs.Common.{sym, ap, subst, ◌<◌, ◌∙◌, length}
use Rattle.index_set.specs.Items.{items_of}
use Rattle.names.specs.Spelt.{spelt}
use Rattle.names.proofs.Places.{put_behind}
use Rattle.names.proofs.register.Register.put.Goals as goal

pub returns : goal.returns
returns g c =
    let s = c.args.self.now in
    let room = subst (λ n. length (spelt (items_of s.names)) < n) (sym s.limit) c.requires.room in
    ap spelt c.insert.ensures.items ∙ put_behind _ _ c.args.name _ c.requires.absent room c.insert.ensures.answer
