use Rattle.order.proofs.serial_wordings_agree.Goals as goal
use Rattle.order.proofs.Serials.{serial_wordings_agree_lem}

pub returns : goal.returns
returns c = serial_wordings_agree_lem
