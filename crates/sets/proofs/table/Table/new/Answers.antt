use Rattle.std.proofs.Common.{refl, arith}
use lib.ListN.{length-replicate}
use Rattle.sets.proofs.Backs.{in_fill}
use Rattle.sets.proofs.table.Table.new.Goals as goal

pub invariant_of-result : goal.invariant_of-result
invariant_of-result g c =
    record { wide = omega arith; narrow = omega arith; sized = length-replicate g.row.N c.new-empty.result; marks = length-replicate g.row.T 0; olds = length-replicate g.row.T c.new-empty.result; deep = omega arith; held = λ k l. absurd (omega arith) }

pub returns : goal.returns
returns g c = record { rows = in_fill g.row.N c.new-empty.result c.new-empty.ensures; len = refl }
