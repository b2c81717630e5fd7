use Rattle.std.proofs.Common.{sym, rules}
use Rattle.sets.proofs.Backs.{in_get}
use Rattle.sets.proofs.table.Table.row.Goals as goal

pub returns : goal.returns
returns g c y = sym (in_get c.args.self.now.rows c.args.x _ (search rules) y)
