use Rattle.std.proofs.Common.{◌≡◌, ℕ, true, ◌⊎◌}
use Rattle.sets.specs.Sets.{has, size}
use Rattle.saturation.specs.Laws.{Closed}
use Rattle.closure.specs.Closures.{earlier, Raised}
use Rattle.closure.proofs.reach.Closure.lead.Given as goal

abbrev pub invariant-loop-q : goal.invariant-loop-q
invariant-loop-q g l =
    Raised (Closed l.facts) l.initial.self l.self
    × ((q : ℕ) → has l.missing q ≡ true → has l.later q ≡ true)
    × ((q : ℕ) → has l.later q ≡ true → (has l.missing q ≡ true) ⊎ (earlier l.self l.r q ≡ true))

abbrev pub decreases-loop-q : goal.decreases-loop-q
decreases-loop-q g l = size l.missing
