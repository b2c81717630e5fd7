use Rattle.order.proofs.search_is_bounded.Goals as goal
use Rattle.order.proofs.Counted.{search_is_bounded_lem}

pub returns : goal.returns
returns c = search_is_bounded_lem
