use Rattle.std.proofs.Common.{sym, ◌∙◌}
use Rattle.std.proofs.lemmas.Bool.{true≢false}
use Rattle.sets.specs.Rows.{in_row, trail_len}
use Rattle.saturation.proofs.Joins.{sound_none}
use Rattle.saturation.proofs.relation.Relation.new.Goals as goal

pub invariant_of-result : goal.invariant_of-result
invariant_of-result g c = record {
  fits = c.requires.0;
  short = c.requires.1.short;
  listed = λ x h. absurd (true≢false (sym h ∙ c.new-dirty.ensures x));
  sound = ∣ sound_none g.row.N g.row.T c.args.count (in_row c.new-after.result) (in_row c.new-before.result) (trail_len c.new-after.result) (trail_len c.new-before.result)
      c.requires.0 c.requires.1.long c.new-after.ensures.rows c.new-before.ensures.rows c.new-after.ensures.len c.new-before.ensures.len ∣₁;
}
