use Rattle.runs.proofs.runs_are_lawful.Goals as goal
use Rattle.runs.proofs.Runs.{runs_are_lawful_lem}

pub returns : goal.returns
returns c = runs_are_lawful_lem
