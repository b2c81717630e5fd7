use Rattle.order.proofs.histories_are_well_formed.Goals as goal
use Rattle.order.proofs.Certificate.{well_formed}

pub returns : goal.returns
returns c = well_formed
