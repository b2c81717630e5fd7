use Rattle.saturation.specs.Relations.{Kept}
use Rattle.saturation.specs.Rooting.{Gained}
use Rattle.saturation.proofs.Roots.{StandingUpTo}
use Rattle.saturation.proofs.relation.Relation.link_pairs.Given as goal

abbrev pub invariant-loop-a : goal.invariant-loop-a
invariant-loop-a g l = Kept l.initial.self l.self × Gained (StandingUpTo l.pairs l.a-index) l.initial.self l.self
