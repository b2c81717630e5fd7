use lib.ListN.{length-replicate}
use Rattle.sets.proofs.Words.{none_bit}
use Rattle.sets.proofs.set.EventSet.new.Goals as goal

pub invariant_of-result : goal.invariant_of-result
invariant_of-result g c = record { sized = length-replicate g.row.W 0 }

pub returns : goal.returns
returns g c j = none_bit g.row.W j
