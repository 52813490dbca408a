use Rattle.std.proofs.Common.{refl}
use Rattle.std.proofs.lemmas.Bool.{false≢true}
use Rattle.signatures.specs.SignatureBase.{signature_base}
use Rattle.verdicts.proofs.mac.judge_tag.Goals as goal

pub returns-then-has_tag : goal.returns-then-has_tag
returns-then-has_tag c = λ params values key absorbed. (c.if-has_tag.ensures key (signature_base params values) absorbed).0 refl

pub returns-else-has_tag : goal.returns-else-has_tag
returns-else-has_tag c = λ params values key absorbed.
    (refl, refl, λ e. false≢true ((c.if-has_tag.ensures key (signature_base params values) absorbed).1 e))
