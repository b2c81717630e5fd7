use Rattle.std.proofs.Common.{◌≡◌, ℕ, true, ◌⊎◌}
use Rattle.sets.specs.Sets.{has, size}
use Rattle.sets.specs.Rows.{in_rows}
use Rattle.saturation.specs.Ties.{takers_of}
use Rattle.saturation.specs.Laws.{Closed}
use Rattle.closure.specs.Closures.{earlier, Raised}
use Rattle.closure.proofs.reach.Closure.readers_first.Given as goal

abbrev pub invariant-loop-r : goal.invariant-loop-r
invariant-loop-r g l =
    Raised (Closed l.facts) l.initial.self l.self
    × ((x : ℕ) → has l.takers x ≡ true → in_rows (takers_of l.facts.ties) l.w x ≡ true)
    × ((q x : ℕ) → has l.later q ≡ true → in_rows (takers_of l.facts.ties) l.w x ≡ true → (has l.takers x ≡ true) ⊎ (earlier l.self x q ≡ true))

abbrev pub decreases-loop-r : goal.decreases-loop-r
decreases-loop-r g l = size l.takers
