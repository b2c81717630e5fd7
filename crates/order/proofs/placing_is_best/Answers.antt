use Rattle.order.proofs.placing_is_best.Goals as goal
use Rattle.order.proofs.Success.{placing_is_best_lem}

pub returns : goal.returns
returns c = placing_is_best_lem
