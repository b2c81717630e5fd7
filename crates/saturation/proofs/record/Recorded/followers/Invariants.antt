use Rattle.std.proofs.Common.{◌≡◌, ℕ, suc, ◌&&◌, ◌||◌, ltb}
use Rattle.order.specs.History.{at}
use Rattle.sets.specs.Sets.{has}
use Rattle.sets.specs.Rows.{in_rows}
use Rattle.saturation.specs.Recorded.{history_in}
use Rattle.saturation.specs.Rooting.{leads}
use Rattle.saturation.proofs.record.Recorded.followers.Given as goal

abbrev pub invariant-loop-y : goal.invariant-loop-y
invariant-loop-y g l = (y : ℕ) → has l.followers y ≡ (in_rows l.self.kept l.x y || (ltb y l.y && leads (at (history_in l.self) (suc l.x)) (at (history_in l.self) (suc y))))
