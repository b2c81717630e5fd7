use Rattle.saturation.specs.Relations.{Kept}
use Rattle.saturation.specs.Rooting.{Gained, Outright}
use Rattle.saturation.proofs.relation.Relation.link_events.Given as goal

abbrev pub invariant-loop-x : goal.invariant-loop-x
invariant-loop-x g l = Kept l.initial.self l.self × Gained (Outright l.case l.x) l.initial.self l.self
