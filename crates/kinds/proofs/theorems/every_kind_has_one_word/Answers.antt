use Rattle.kinds.proofs.Naming.{one_word_each}
use Rattle.kinds.proofs.theorems.every_kind_has_one_word.Goals as goal

pub returns : goal.returns
returns c = one_word_each
