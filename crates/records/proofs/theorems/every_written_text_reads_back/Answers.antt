use Rattle.records.proofs.ReadingBack.{every_written_text_reads_back_lem}
use Rattle.records.proofs.theorems.every_written_text_reads_back.Goals as goal

pub returns : goal.returns
returns c = every_written_text_reads_back_lem
