use Rattle.full_report.proofs.Only.{one_report}
use Rattle.full_report.proofs.printing.there_is_one_report.Goals as goal

pub returns : goal.returns
returns c = one_report
