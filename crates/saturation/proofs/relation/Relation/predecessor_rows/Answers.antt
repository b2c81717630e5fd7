use Rattle.std.proofs.Common.{ap, ◌∙◌}
use Rattle.sets.specs.Rows.{in_rows}
use Rattle.saturation.proofs.Joins.{sound}
use Rattle.saturation.proofs.relation.Relation.predecessor_rows.Goals as goal

pub returns-clause-rows : goal.returns-clause-rows
returns-clause-rows g c x y = ap (λ rows. in_rows rows y x) c.copy_from_slice.ensures.after ∙ c.rows.ensures.rows y x ∙ (sound c.args.self.now).mirror x y
