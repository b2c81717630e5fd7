use Rattle.std.proofs.Common.{arith, length-take}
use Rattle.history.proofs.source.TableSource.count.Goals as goal

pub returns : goal.returns
returns c = simp length-take (omega arith)
