use Rattle.std.proofs.Common.{◌≡◌, ℕ, true, ◌⊎◌}
use Rattle.sets.specs.Sets.{has, size}
use Rattle.closure.specs.Closures.{earlier, Raised, HasRow}
use Rattle.closure.proofs.reach.Closure.link_row.Given as goal

abbrev pub invariant-loop-y : goal.invariant-loop-y
invariant-loop-y g l =
    Raised (HasRow l.x l.row) l.initial.self l.self
    × ((k : ℕ) → has l.rest k ≡ true → has l.row k ≡ true)
    × ((k : ℕ) → has l.row k ≡ true → (has l.rest k ≡ true) ⊎ (earlier l.self l.x k ≡ true))

abbrev pub decreases-loop-y : goal.decreases-loop-y
decreases-loop-y g l = size l.rest
