use Rattle.std.proofs.Common.{◌≡◌, ℕ, suc, ◌&&◌, ltb}
use Rattle.order.specs.History.{kept_by}
use Rattle.sets.specs.Sets.{has}
use Rattle.saturation.proofs.record.keeping.kept_after.Given as goal

abbrev pub invariant-loop-y : goal.invariant-loop-y
invariant-loop-y g l = (y : ℕ) → has l.row y ≡ (ltb y l.y && kept_by (g.R.Rule.keeps l.rule) l.events (suc l.x) (suc y))
