use Rattle.std.proofs.Common.{rules}
use Rattle.sets.proofs.Backs.{in_fill}
use Rattle.sets.proofs.table.Table.clear.Goals as goal

pub returns-clause-rows : goal.returns-clause-rows
returns-clause-rows g c = rw (c.fill.ensures.after (search rules)) (in_fill _ c.new.result c.new.ensures)
