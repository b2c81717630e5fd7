-- What a relation and the facts say of a history. The event x of a relation has the number x + 1 in the history.
use Rattle.std.specs.Prelude.{◌≡◌, ℕ, suc, true, ◌↔◌, List, slice_index}
use Rattle.order.specs.History.{History, count, TakesFrom, TwoWrites}
use Rattle.order.specs.Before.{Before}
use Rattle.sets.specs.Rows.{in_rows}
use Rattle.saturation.specs.Ties.{from_of, mates_of, others_of, takers_of}
use Rattle.saturation.specs.Relations.{earlier, Idle}
use Rattle.saturation.specs.declared.relation.Relation.{Relation}
use Rattle.saturation.specs.declared.saturate.Facts.{Facts}

-- The relation is exactly before, at the node with the pairs S, and nothing waits.
pub record Exact {N W T : ℕ} (h : History) (S : List (ℕ × ℕ)) (o : Relation N W T) : Type 0 where
  pub events : o.count ≡ count h
  pub only : (x y : ℕ) → earlier o x y ≡ true → Before h S (suc x) (suc y)
  pub all : (x y : ℕ) → Before h S (suc x) (suc y) → earlier o x y ≡ true
  pub idle : Idle o

-- The facts are those of the history.
pub record FactsOf {N W : ℕ} (h : History) (f : Facts N W) : Type 0 where
  pub events : f.count ≡ count h
  pub mates : (w q : ℕ) → (in_rows (mates_of f.ties) w q ≡ true) ↔ TwoWrites h (suc w) (suc q)
  pub takers : (w r : ℕ) → (in_rows (takers_of f.ties) w r ≡ true) ↔ TakesFrom h (suc r) (suc w)
  pub others : (w r : ℕ) → (in_rows (others_of f.ties) w r ≡ true) ↔ ((v : ℕ) × TakesFrom h (suc r) (suc v) × TwoWrites h (suc w) (suc v))
  pub from : (r w : ℕ) → TakesFrom h (suc r) (suc w) → slice_index (from_of f.ties) r ≡ w
