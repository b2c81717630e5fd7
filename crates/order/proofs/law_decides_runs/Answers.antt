use Rattle.order.proofs.law_decides_runs.Goals as goal
use Rattle.order.proofs.Determined.{law_decides_runs_lem}

pub returns : goal.returns
returns c = law_decides_runs_lem
