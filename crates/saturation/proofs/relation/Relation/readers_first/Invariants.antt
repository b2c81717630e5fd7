use Rattle.std.proofs.Common.{◌≡◌, ℕ, true, ◌⊎◌}
use Rattle.sets.specs.Sets.{has, size}
use Rattle.sets.specs.Rows.{in_rows}
use Rattle.saturation.specs.Ties.{takers_of}
use Rattle.saturation.specs.Relations.{earlier, Kept}
use Rattle.saturation.specs.Laws.{Forced}
use Rattle.saturation.proofs.relation.Relation.readers_first.Given as goal

abbrev pub invariant-loop-r : goal.invariant-loop-r
invariant-loop-r g l =
    Kept l.initial.self l.self
    × Forced l.facts l.initial.self l.self
    × ((x : ℕ) → has l.takers x ≡ true → in_rows (takers_of l.facts.ties) l.w x ≡ true)
    × ((q x : ℕ) → has l.later q ≡ true → in_rows (takers_of l.facts.ties) l.w x ≡ true → (has l.takers x ≡ true) ⊎ (earlier l.self x q ≡ true))

abbrev pub decreases-loop-r : goal.decreases-loop-r
decreases-loop-r g l = size l.takers
