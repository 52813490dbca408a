use Rattle.conf.specs.ConfMeaning.{meaning}
use Rattle.program.proofs.AuditedTexts.{audit_after}
use Rattle.program.proofs.Layers.{went_on}
use Rattle.program.proofs.over_text.AuditWordsOverText.answer.Goals as goal

pub returns-clause-after : goal.returns-clause-after
returns-clause-after c =
    went_on (λ outcome. audit_after (meaning c.args.conf.now) c.args.text.now outcome c.requires) c.audit_outcome.result c.audit_outcome.ensures.report
