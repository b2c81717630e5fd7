use Rattle.std.proofs.Common.{◌∙◌}
use Rattle.saturation.proofs.Joins.{sound}
use Rattle.saturation.proofs.relation.Relation.predecessors.Goals as goal

pub returns : goal.returns
returns g c x = c.row.ensures x ∙ (sound c.args.self.now).mirror x c.args.y
