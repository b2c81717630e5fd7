use Rattle.std.proofs.Common.{◌≤◌}
use Rattle.sets.specs.Rows.{RowsKept}
use Rattle.sets.proofs.table.Table.undo_to.Given as goal

abbrev pub invariant-loop-self : goal.invariant-loop-self
invariant-loop-self g l = (l.mark ≤ l.self.len) × RowsKept l.self l.initial.self

abbrev pub decreases-loop-self : goal.decreases-loop-self
decreases-loop-self g l = l.self.len
