-- How a relation gets the pairs that a record and the pairs that stand give outright.
use Rattle.std.specs.Prelude.{◌≡◌, ℕ, suc, ◌<◌, ◌≤◌, Bool, true, false, ◌&&◌, ◌||◌, List, MatchBool, ◌==◌, nat_lt}
use mathlib.Core.List.{Memᴰ}
use Rattle.history.specs.declared.event.Event.{Event}
use Rattle.order.specs.History.{History, at, count}
use Rattle.order.specs.Before.{Clash}
use Rattle.order.specs.Opening.{is_read, is_write}
use Rattle.sets.specs.Sets.{has}
use Rattle.sets.specs.Rows.{in_rows}
use Rattle.saturation.specs.Orders.{Transitive, Within}
use Rattle.saturation.specs.Relations.{earlier, Kept}
use Rattle.saturation.specs.Laws.{Closed, Ready}
use Rattle.saturation.specs.Nodes.{Exact, FactsOf}
use Rattle.saturation.specs.Recorded.{history_in}
use Rattle.sets.specs.declared.set.EventSet.{EventSet}
use Rattle.saturation.specs.declared.record.Recorded.{Recorded}
use Rattle.saturation.specs.declared.relation.Relation.{Relation}
use Rattle.saturation.specs.declared.saturate.Facts.{Facts}

-- The second event is a read of what the first writes, or the first a read of revision 0 and the second a write of its star.
abbrev pub leads : Event → Event → Bool
leads a b =
    (a.star == b.star)
    && ((is_write a && (is_read b && a.revision == b.revision)) || (is_read a && (is_write b && a.revision == 0)))

-- The pair of x and y is kept, or x leads y.
abbrev pub leads_in : {N W : ℕ} → Recorded N W → ℕ → ℕ → Bool
leads_in r x y = in_rows r.kept x y || (nat_lt y (count (history_in r)) && leads (at (history_in r) (suc x)) (at (history_in r) (suc y)))

-- The pairs that the record gives outright, of which the first event is below n.
abbrev pub Outright : {N W : ℕ} → Recorded N W → ℕ → ℕ → ℕ → Type 0
Outright r n x y = (x < n) × (leads_in r x y ≡ true)

-- The pairs of x and the events of s.
abbrev pub RowOf : {W : ℕ} → ℕ → EventSet W → ℕ → ℕ → Type 0
RowOf x s u v = (u ≡ x) × (has s v ≡ true)

-- The pairs that stand.
abbrev pub Standing : List (ℕ × ℕ) → ℕ → ℕ → Type 0
Standing S x y = Memᴰ (suc x, suc y) S

-- The pairs of S are pairs of numbers from 1 to n.
abbrev pub PairsUpTo : ℕ → List (ℕ × ℕ) → Type 0
PairsUpTo n S = (a b : ℕ) → Memᴰ (a, b) S → (1 ≤ a) × (a ≤ n) × (1 ≤ b) × (b ≤ n)

-- p has all of o and the pairs of D, and lies in every transitive relation that has; what has new successors waits.
pub record Gained {N W T : ℕ} (D : ℕ → ℕ → Type 0) (o p : Relation N W T) : Type 0 where
  pub keeps : Within (earlier o) (earlier p)
  pub gets : (x y : ℕ) → D x y → earlier p x y ≡ true
  pub least : (Q : ℕ → ℕ → Bool) → Transitive Q → Within (earlier o) Q → ((x y : ℕ) → D x y → Q x y ≡ true) → Within (earlier p) Q
  pub ready : (f : Facts N W) → Ready f o → Ready f p

-- Every transitive relation that has all of o and the pairs of D has an event before itself.
abbrev pub Blocked : {N W T : ℕ} → (ℕ → ℕ → Type 0) → Relation N W T → Type 0
Blocked D o = (Q : ℕ → ℕ → Bool) → Transitive Q → Within (earlier o) Q → ((x y : ℕ) → D x y → Q x y ≡ true) → (x : ℕ) × (Q x x ≡ true)

-- The relation has no pair yet.
abbrev pub Bare : {N W T : ℕ} → Relation N W T → Type 0
Bare o = (x y : ℕ) → earlier o x y ≡ false

-- p is what o has become, and b the answer, once all that the history and the pairs of S give was put in.
pub record Rooted {N W T : ℕ} (f : Facts N W) (h : History) (S : List (ℕ × ℕ)) (o p : Relation N W T) (b : Bool) : Type 0 where
  -- the trails lead back to o
  pub kept : Kept o p
  -- after a yes, p has all that the rules force
  pub closed : b ≡ true → Closed f (earlier p)
  -- yes says that p is exactly before at the node S, and no says that this node has a clash
  pub node : FactsOf h f → MatchBool b (Exact h S p) (Clash h S)
