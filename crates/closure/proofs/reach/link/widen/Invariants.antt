use Rattle.std.proofs.Common.{◌≡◌, ℕ, true, not, ◌&&◌, ◌||◌, length}
use Rattle.sets.specs.Sets.{has, size}
use Rattle.sets.specs.Rows.{in_rows}
use Rattle.closure.proofs.reach.link.widen.Given as goal

abbrev pub invariant-loop-x : goal.invariant-loop-x
invariant-loop-x g l =
    ((k : ℕ) → has l.rest k ≡ true → has l.which k ≡ true)
    × (length l.rows ≡ g.row.N)
    × ((z y : ℕ) → in_rows l.rows z y ≡ (in_rows l.initial.rows z y || ((has l.which z && not (has l.rest z)) && has l.more y)))

abbrev pub decreases-loop-x : goal.decreases-loop-x
decreases-loop-x g l = size l.rest
