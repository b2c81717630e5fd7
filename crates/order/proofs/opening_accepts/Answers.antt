use Rattle.order.proofs.opening_accepts.Goals as goal
use Rattle.order.proofs.Opens.{opening_accepts_lem}

pub returns : goal.returns
returns c = opening_accepts_lem
