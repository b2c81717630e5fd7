use Rattle.std.proofs.Common.{sym, ◌∙◌}
use Rattle.std.proofs.lemmas.Bool.{true≢false}
use Rattle.sets.specs.Rows.{in_row, trail_len}
use Rattle.saturation.proofs.Joins.{sound_none}
use Rattle.saturation.proofs.relation.Relation.clear.Goals as goal

pub invariant_of-self : goal.invariant_of-self
invariant_of-self g c = record {
  fits = c.requires.0;
  short = c.requires.1.short;
  listed = λ x h. absurd (true≢false (sym h ∙ c.new-self.ensures x));
  sound = ∣ sound_none g.row.N g.row.T c.args.count (in_row c.clear.new.self) (in_row c.clear-2.new.self) (trail_len c.clear.new.self) (trail_len c.clear-2.new.self) c.requires.0
      c.requires.1.long c.clear.ensures.rows c.clear-2.ensures.rows c.clear.ensures.len c.clear-2.ensures.len ∣₁;
}
