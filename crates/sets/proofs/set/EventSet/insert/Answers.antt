use Rattle.std.proofs.Common.{rules}
use Rattle.sets.proofs.Words.{insert_bit}
use Rattle.sets.proofs.set.EventSet.insert.Goals as goal

pub returns : goal.returns
returns g c j = insert_bit c.args.self.now.words c.args.k j (search rules)
