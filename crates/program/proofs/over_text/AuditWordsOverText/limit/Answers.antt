use Rattle.program.proofs.AuditedTexts.{recording_longer}
use Rattle.program.proofs.over_text.AuditWordsOverText.limit.Goals as goal

pub returns-clause-longer : goal.returns-clause-longer
returns-clause-longer c = recording_longer
