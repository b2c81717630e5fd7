use Rattle.order.proofs.worked_cases.Goals as goal
use Rattle.order.proofs.Worked.{worked_cases_lem}

pub returns : goal.returns
returns c = worked_cases_lem
