use Rattle.intake.proofs.DecidedConf.{is_valid_where_configured}
use Rattle.intake.proofs.ScriptFiles.{have_values_where_scripted, is_writable_where_scripted}
use Rattle.intake.proofs.laws.what_is_read_has_its_form.Goals as goal

pub returns : goal.returns
returns c = record { valid = is_valid_where_configured; writable = is_writable_where_scripted; values = have_values_where_scripted }
