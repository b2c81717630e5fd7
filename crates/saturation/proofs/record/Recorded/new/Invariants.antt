use Rattle.std.proofs.Common.{◌≡◌, ℕ, suc, ◌&&◌, ltb, length}
use Rattle.order.specs.History.{kept_by}
use Rattle.sets.specs.Rows.{in_rows}
use Rattle.saturation.proofs.record.Recorded.new.Given as goal

abbrev pub invariant-loop-x : goal.invariant-loop-x
invariant-loop-x g l = (length l.kept ≡ g.row.N) × ((x y : ℕ) → in_rows l.kept x y ≡ (ltb x l.x && kept_by (g.R.Rule.keeps l.rule) l.listed (suc x) (suc y)))
