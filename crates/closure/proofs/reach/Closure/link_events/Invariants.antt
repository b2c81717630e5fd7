use Rattle.std.proofs.Common.{◌≡◌, ℕ, ◌<◌, true}
use Rattle.saturation.specs.Rooting.{leads_in}
use Rattle.closure.specs.Closures.{earlier, Raised, HasEvents}
use Rattle.closure.proofs.reach.Closure.link_events.Given as goal

abbrev pub invariant-loop-x : goal.invariant-loop-x
invariant-loop-x g l =
    Raised (HasEvents l.case) l.initial.self l.self
    × ((z y : ℕ) → z < l.x → leads_in l.case z y ≡ true → earlier l.self z y ≡ true)
