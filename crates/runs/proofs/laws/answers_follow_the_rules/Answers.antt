use Rattle.std.proofs.Common.{refl}
use Rattle.runs.proofs.laws.answers_follow_the_rules.Goals as goal

pub returns : goal.returns
returns c = λ d l calls. record { answers = refl; state = refl }
