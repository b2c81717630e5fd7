use Rattle.order.proofs.search_ends.Goals as goal
use Rattle.order.proofs.Ends.{search_ends_lem}

pub returns : goal.returns
returns c = search_ends_lem
