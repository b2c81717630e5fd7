use Rattle.order.proofs.search_decides.Goals as goal
use Rattle.order.proofs.Success.{search_decides_lem}

pub returns : goal.returns
returns c = search_decides_lem
