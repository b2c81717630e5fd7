-- What a case keeps of the node at which a search succeeded.
use Rattle.std.specs.Prelude.{◌≡◌, ℕ, suc, true, ◌↔◌, List}
use Rattle.order.specs.History.{History}
use Rattle.order.specs.Before.{Before}
use Rattle.order.specs.Search.{Search, succeeds}
use Rattle.sets.specs.Rows.{in_rows}
use Rattle.sets.specs.declared.set.EventSet.{EventSet}

-- The search with the pairs S standing succeeds at a node, and the row of an event has just the events before it there.
-- (Row y is that of the event y + 1.)
pub record AtNode {W : ℕ} (h : History) (S : List (ℕ × ℕ)) (rows : List (EventSet W)) : Type 0 where
  pub nodes : ℕ
  pub node : List (ℕ × ℕ)
  pub search : Search h S nodes (succeeds node)
  pub exact : (x y : ℕ) → (in_rows rows y x ≡ true) ↔ Before h node (suc x) (suc y)
