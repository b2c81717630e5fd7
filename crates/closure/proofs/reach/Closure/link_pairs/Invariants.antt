use Rattle.std.proofs.Common.{◌≡◌, ℕ, ◌-◌, ◌<◌, true, get_or}
use Rattle.closure.specs.Closures.{earlier, Raised, HasPairs}
use Rattle.closure.proofs.reach.Closure.link_pairs.Given as goal

abbrev pub invariant-loop-a : goal.invariant-loop-a
invariant-loop-a g l =
    Raised (HasPairs l.pairs) l.initial.self l.self
    × ((k : ℕ) → k < l.a-index → earlier l.self ((get_or l.pairs k (0, 0)).0 - 1) ((get_or l.pairs k (0, 0)).1 - 1) ≡ true)
