use Rattle.program.proofs.OneReport.{one_report_law}
use Rattle.program.proofs.SomeReport.{some_report_law}
use Rattle.program.proofs.laws.one_report.Goals as goal

pub returns : goal.returns
returns c = record { one = one_report_law; some = some_report_law }
