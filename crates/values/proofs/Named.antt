-- Every name is well spelt.
use Rattle.std.proofs.Common.{◌≡◌, ◌<◌, ◌≤◌, true, length, sym, ◌∙◌, arith, length-take}
use Rattle.values.specs.Names.{spells_name, spelling}
use Rattle.values.specs.declared.name.Name.{Name}
use Rattle.values.proofs.Spellings.{by_letters}

pub spelt_name : (n : Name) → spells_name (spelling n) ≡ true
spelt_name n =
    let some : 0 < n.len = n.some in
    let fits : n.len ≤ 24 = n.fits in
    let whole : length n.bytes ≡ 24 = n.whole in
    let long = length-take n.len n.bytes in
    sym (by_letters (spelling n) (omega arith) (omega arith)) ∙ n.spelt
