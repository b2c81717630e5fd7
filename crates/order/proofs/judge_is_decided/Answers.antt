use Rattle.order.proofs.judge_is_decided.Goals as goal
use Rattle.order.proofs.Judge.{judge_is_decided_lem}

pub returns : goal.returns
returns c = judge_is_decided_lem
