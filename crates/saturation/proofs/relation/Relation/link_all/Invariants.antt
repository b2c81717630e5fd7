use Rattle.std.proofs.Common.{◌≡◌, ℕ, true, false}
use Rattle.sets.specs.Sets.{has, size}
use Rattle.saturation.specs.Relations.{Kept}
use Rattle.saturation.specs.Rooting.{Gained}
use Rattle.saturation.proofs.relation.Relation.link_all.Given as goal

abbrev pub invariant-loop-y : goal.invariant-loop-y
invariant-loop-y g l =
    Kept l.initial.self l.self
    × Gained (λ u v. (u ≡ l.x) × (has l.listed v ≡ true) × (has l.rest v ≡ false)) l.initial.self l.self
    × ((y : ℕ) → has l.rest y ≡ true → has l.listed y ≡ true)

abbrev pub decreases-loop-y : goal.decreases-loop-y
decreases-loop-y g l = size l.rest
