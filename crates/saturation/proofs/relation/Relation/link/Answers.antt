use Rattle.std.proofs.Common.{sym}
use Rattle.saturation.proofs.Trails.{linked_already}
use Rattle.saturation.proofs.relation.Relation.link.Goals as goal

pub returns-then-contains : goal.returns-then-contains
returns-then-contains g c = linked_already c.args.self.now c.args.u c.args.v (sym c.if-contains.ensures)
