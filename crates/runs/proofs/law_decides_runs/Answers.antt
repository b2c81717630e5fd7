use Rattle.runs.proofs.law_decides_runs.Goals as goal
use Rattle.runs.proofs.Runs.{law_decides_runs_lem}

pub returns : goal.returns
returns c = law_decides_runs_lem
