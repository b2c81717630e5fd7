use Rattle.std.proofs.Common.{◌≡◌, ℕ, true, ◌⊎◌}
use Rattle.sets.specs.Sets.{has, size}
use Rattle.saturation.specs.Relations.{earlier, Kept}
use Rattle.saturation.specs.Laws.{Forced}
use Rattle.saturation.proofs.relation.Relation.lead.Given as goal

abbrev pub invariant-loop-q : goal.invariant-loop-q
invariant-loop-q g l =
    Kept l.initial.self l.self
    × Forced l.facts l.initial.self l.self
    × ((q : ℕ) → has l.missing q ≡ true → has l.later q ≡ true)
    × ((q : ℕ) → has l.later q ≡ true → (has l.missing q ≡ true) ⊎ (earlier l.self l.r q ≡ true))

abbrev pub decreases-loop-q : goal.decreases-loop-q
decreases-loop-q g l = size l.missing
