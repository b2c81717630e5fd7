use Rattle.std.proofs.Common.{◌≡◌, ℕ, ◌<◌, true}
use Rattle.sets.specs.Rows.{in_rows}
use Rattle.saturation.specs.Ties.{takers_of}
use Rattle.closure.specs.Closures.{earlier, Raised, HasRows}
use Rattle.closure.proofs.reach.Closure.link_takers.Given as goal

abbrev pub invariant-loop-w : goal.invariant-loop-w
invariant-loop-w g l =
    Raised (HasRows l.initial.self.count (takers_of l.facts.ties)) l.initial.self l.self
    × ((z y : ℕ) → z < l.w → in_rows (takers_of l.facts.ties) z y ≡ true → earlier l.self z y ≡ true)
