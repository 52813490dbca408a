use Rattle.program.proofs.Meanings.{have_one_meaning, runs_agree}
use Rattle.program.proofs.laws.one_tag_has_one_meaning.Goals as goal

pub returns : goal.returns
returns c = record { one = have_one_meaning; runs = runs_agree }
