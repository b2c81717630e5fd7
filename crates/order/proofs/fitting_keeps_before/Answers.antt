use Rattle.order.proofs.fitting_keeps_before.Goals as goal
use Rattle.order.proofs.Sound.{fitting_keeps_before_lem}

pub returns : goal.returns
returns c = fitting_keeps_before_lem
