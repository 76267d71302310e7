use Rattle.rules.proofs.Sounding.{stays_sound}
use Rattle.rules.proofs.laws.pairs_stay_sound.Goals as goal

pub returns : goal.returns
returns c = stays_sound
