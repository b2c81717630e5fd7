use Rattle.std.proofs.Common.{◌≡◌, ℕ, ◌<◌, ◌≤◌, true, false}
use Rattle.sets.specs.Sets.{has, size}
use Rattle.sets.specs.Rows.{in_rows}
use Rattle.saturation.specs.Ties.{mates_of}
use Rattle.saturation.specs.Orders.{free}
use Rattle.saturation.specs.Relations.{earlier}
use Rattle.saturation.proofs.relation.Relation.first_unordered.Given as goal

abbrev pub invariant-loop-a : goal.invariant-loop-a
invariant-loop-a g l = (x y : ℕ) → l.from ≤ x → x < l.a → x < y → in_rows (mates_of l.facts.ties) x y ≡ true → free (earlier l.self) x y ≡ true → ⊥

abbrev pub invariant-loop-b : goal.invariant-loop-b
invariant-loop-b g l =
    ((y : ℕ) → has l.open y ≡ true → (in_rows (mates_of l.facts.ties) l.a y ≡ true) × (earlier l.self l.a y ≡ false) × (earlier l.self y l.a ≡ false))
    × ((y : ℕ) → l.a < y → in_rows (mates_of l.facts.ties) l.a y ≡ true → free (earlier l.self) l.a y ≡ true → has l.open y ≡ true)

abbrev pub decreases-loop-b : goal.decreases-loop-b
decreases-loop-b g l = size l.open
