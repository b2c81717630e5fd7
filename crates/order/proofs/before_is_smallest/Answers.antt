use Rattle.order.proofs.before_is_smallest.Goals as goal
use Rattle.order.proofs.Smallest.{before_is_smallest_lem}

pub returns : goal.returns
returns c = before_is_smallest_lem
