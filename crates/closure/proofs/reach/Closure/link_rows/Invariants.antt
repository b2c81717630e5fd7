use Rattle.std.proofs.Common.{◌≡◌, ℕ, ◌<◌, true}
use Rattle.sets.specs.Rows.{in_rows}
use Rattle.closure.specs.Closures.{earlier, Raised, HasRows}
use Rattle.closure.proofs.reach.Closure.link_rows.Given as goal

abbrev pub invariant-loop-x : goal.invariant-loop-x
invariant-loop-x g l =
    Raised (HasRows l.initial.self.count l.rows) l.initial.self l.self
    × ((z y : ℕ) → z < l.x → in_rows l.rows z y ≡ true → earlier l.self z y ≡ true)
