use Rattle.std.proofs.Common.{◌+◌, ◌*◌}
use Rattle.sets.specs.Sets.{size}
use Rattle.saturation.specs.Orders.{slack}
use Rattle.saturation.specs.Relations.{earlier, Kept}
use Rattle.saturation.specs.Laws.{Ready, Grown}
use Rattle.saturation.proofs.relation.Relation.saturate.Given as goal

abbrev pub invariant-loop-w : goal.invariant-loop-w
invariant-loop-w g l =
    Kept l.initial.self l.self
    × Ready l.facts l.self
    × Grown l.facts (earlier l.initial.self) (earlier l.self)

abbrev pub decreases-loop-w : goal.decreases-loop-w
decreases-loop-w g l = slack (earlier l.self) l.self.count * (64 * g.row.W + 1) + size l.self.dirty
