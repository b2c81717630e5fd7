-- What adding a pair to a relation makes of it, and which pair of writes is the first that it leaves unordered.
use Rattle.std.specs.Prelude.{◌≡◌, ℕ, suc, ◌+◌, ◌<◌, ◌≤◌, Bool, true, List, ◌∷◌, MatchBool}
use Rattle.order.specs.History.{History, WellFormed, PairsOfEvents}
use Rattle.order.specs.Before.{Clash}
use Rattle.order.specs.Search.{Unordered, FirstUnordered, Complete}
use Rattle.saturation.specs.Orders.{free, slack}
use Rattle.saturation.specs.Relations.{earlier, Idle, Kept}
use Rattle.saturation.specs.Laws.{Closed}
use Rattle.saturation.specs.Nodes.{Exact, FactsOf}
use Rattle.saturation.specs.declared.relation.Relation.{Relation}
use Rattle.saturation.specs.declared.saturate.Facts.{Facts}

-- u and v are events, which are as many in the facts as in the relation, and the relation has all that the rules force.
pub record Addable {N W T : ℕ} (f : Facts N W) (o : Relation N W T) (u v : ℕ) : Type 0 where
  pub events : f.count ≡ o.count
  pub first : u < o.count
  pub second : v < o.count
  pub closed : Closed f (earlier o)

-- p is what o has become, and b the answer, once the pair of u and v was added with all that it forces.
pub record Added {N W T : ℕ} (f : Facts N W) (u v : ℕ) (o p : Relation N W T) (b : Bool) : Type 0 where
  -- the trails lead back to o
  pub kept : Kept o p
  -- after a yes, p has all that the rules force, and nothing waits
  pub closed : b ≡ true → Closed f (earlier p)
  pub idle : b ≡ true → Idle p
  -- after a yes to a pair that was free, at least two ordered pairs fewer are free
  pub fewer : b ≡ true → free (earlier o) u v ≡ true → slack (earlier p) o.count + 2 ≤ slack (earlier o) o.count
  -- where o was exactly before at a node, yes says that p is so with the pair in front, and no says that this node has a clash
  pub node : (h : History) (S : List (ℕ × ℕ)) → FactsOf h f → WellFormed h → PairsOfEvents h S → Exact h S o →
      MatchBool b (Exact h ((suc u, suc v) ∷ S) p) (Clash h ((suc u, suc v) ∷ S))

-- At a node, the lower write of each unordered pair is the event k of the relation, or a later one.
abbrev pub OpenFrom : History → List (ℕ × ℕ) → ℕ → Type 0
OpenFrom h S k = (c d : ℕ) → Unordered h S c d → k < c

-- Of the pairs of writes from the event k on, that of a and b is the first that o leaves unordered.
pub record FirstOpen {N W T : ℕ} (f : Facts N W) (k : ℕ) (o : Relation N W T) (a b : ℕ) : Type 0 where
  pub from : k ≤ a
  pub lower : a < b
  pub inside : b < o.count
  pub apart : free (earlier o) a b ≡ true
  pub first : (h : History) (S : List (ℕ × ℕ)) → FactsOf h f → Exact h S o → OpenFrom h S k → FirstUnordered h S (suc a) (suc b)

-- The relation o leaves no pair of writes from the event k on unordered.
abbrev pub NoneOpen : {N W T : ℕ} → Facts N W → ℕ → Relation N W T → Type 0
NoneOpen f k o = (h : History) (S : List (ℕ × ℕ)) → FactsOf h f → Exact h S o → OpenFrom h S k → Complete h S
