use Rattle.std.proofs.Common.{◌≡◌, ℕ, ◌+◌, ◌≤◌, true, not, ◌&&◌, ◌||◌}
use Rattle.sets.specs.Sets.{has, size}
use Rattle.sets.specs.Rows.{in_row, trail_len, RowsKept}
use Rattle.sets.proofs.table.Table.widen.Given as goal

abbrev pub invariant-loop-x : goal.invariant-loop-x
invariant-loop-x g l =
    ((k : ℕ) → has l.rest k ≡ true → has l.which k ≡ true)
    × (trail_len l.self + size l.rest ≤ trail_len l.initial.self + size l.which)
    × ((z y : ℕ) → in_row l.self z y ≡ (in_row l.initial.self z y || ((has l.which z && not (has l.rest z)) && has l.more y)))
    × RowsKept l.initial.self l.self

abbrev pub decreases-loop-x : goal.decreases-loop-x
decreases-loop-x g l = size l.rest
