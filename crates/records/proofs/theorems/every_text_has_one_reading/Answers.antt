use Rattle.records.proofs.SomeReading.{every_text_has_one_reading_lem}
use Rattle.records.proofs.theorems.every_text_has_one_reading.Goals as goal

pub returns : goal.returns
returns c = every_text_has_one_reading_lem
