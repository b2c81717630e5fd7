use Rattle.std.proofs.Common.{◌≡◌, ◌+◌, ◌*◌}
use Rattle.sets.specs.Sets.{size}
use Rattle.saturation.specs.Laws.{Grown}
use Rattle.closure.specs.Closures.{earlier, Ready}
use Rattle.closure.proofs.Gaps.{gaps}
use Rattle.closure.proofs.reach.Closure.saturate.Given as goal

abbrev pub invariant-loop-w : goal.invariant-loop-w
invariant-loop-w g l =
    (l.self.count ≡ l.initial.self.count)
    × Ready l.facts l.self
    × Grown l.facts (earlier l.initial.self) (earlier l.self)

abbrev pub decreases-loop-w : goal.decreases-loop-w
decreases-loop-w g l = gaps (earlier l.self) l.self.count * (64 * g.row.W + 1) + size l.self.dirty
