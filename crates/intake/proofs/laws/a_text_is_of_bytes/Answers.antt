use Rattle.intake.proofs.Texts.{all_bytes}
use Rattle.intake.proofs.laws.a_text_is_of_bytes.Goals as goal

pub returns : goal.returns
returns c = all_bytes
