use Rattle.std.proofs.Common.{◌≡◌, ℕ, true, ◌⊎◌, get_or}
use Rattle.sets.specs.Sets.{has, size}
use Rattle.sets.specs.Rows.{in_rows}
use Rattle.saturation.specs.Ties.{from_of, others_of}
use Rattle.saturation.specs.Laws.{Closed}
use Rattle.closure.specs.Closures.{earlier, Raised}
use Rattle.closure.proofs.reach.Closure.before_sources.Given as goal

abbrev pub invariant-loop-r : goal.invariant-loop-r
invariant-loop-r g l =
    Raised (Closed l.facts) l.initial.self l.self
    × ((x : ℕ) → has l.reads x ≡ true → (in_rows (others_of l.facts.ties) l.w x ≡ true) × (earlier l.initial.self l.w x ≡ true))
    × ((x : ℕ) → in_rows (others_of l.facts.ties) l.w x ≡ true → earlier l.initial.self l.w x ≡ true → (has l.reads x ≡ true) ⊎ (earlier l.self l.w (get_or (from_of l.facts.ties) x 0) ≡ true))

abbrev pub decreases-loop-r : goal.decreases-loop-r
decreases-loop-r g l = size l.reads
