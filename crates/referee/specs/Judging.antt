-- What deciding a case finds, and what it leaves in the case.
use Rattle.std.specs.Prelude.{◌≡◌, ℕ, true}
use Rattle.order.specs.Calls.{Judges}
use Rattle.saturation.specs.Recorded.{history_in}
use Rattle.referee.specs.Verdicts.{verdict_of, says_serial}
use Rattle.referee.specs.Nodes.{AtNode}
use Rattle.referee.specs.Meaning.{pairs_of}
use Rattle.referee.specs.declared.state.Judgement.{Judgement}
use Rattle.referee.specs.declared.case.Case.{Case}

-- The verdict and the steps are what judge finds; history and stipulations stay; if the verdict is serial, the rows are those
-- of the successful node.
pub record Judged (budget : ℕ) (o p : Case) (j : Judgement) : Type 0 where
  pub finds : Judges (history_in o.recorded) (pairs_of o) budget (verdict_of j.verdict) j.steps
  pub history : p.recorded ≡ o.recorded
  pub pairs : p.stipulations ≡ o.stipulations
  pub node : says_serial j.verdict ≡ true → AtNode (history_in o.recorded) (pairs_of o) p.node
