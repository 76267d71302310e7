use Rattle.std.proofs.Common.{◌≡◌, false}
use Rattle.std.specs.List.{AllWithin}
use Rattle.index_set.specs.Items.{items_of}
use Rattle.index_set.proofs.index_set.IndexSet.index_of.Given as goal

abbrev pub invariant-loop-index : goal.invariant-loop-index
invariant-loop-index g l = AllWithin (λ y. g.X.Same.alike y l.x ≡ false) (items_of l.self) 0 l.index
