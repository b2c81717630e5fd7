-- Where a walk through the nodes of a search is, and what it still has to come to.
use Rattle.std.specs.Prelude.{◌≡◌, ℕ, suc, ◌+◌, ◌*◌, ◌<◌, ◌≤◌, min, Bool, true, cond, List, [], ◌∷◌, length, reverse, Result, MatchResult, nat_lt}
use Rattle.order.specs.History.{History, count, WellFormed, PairsOfEvents}
use Rattle.order.specs.Before.{Clash}
use Rattle.order.specs.Search.{Search, fails, succeeds, FirstUnordered}
use Rattle.saturation.specs.Orders.{free, slack}
use Rattle.saturation.specs.Relations.{earlier, Kept, mark_of}
use Rattle.saturation.specs.Nodes.{Exact, FactsOf}
use Rattle.saturation.specs.Adding.{OpenFrom}
use Rattle.search.specs.Tree.{Waiting, Follows, Comes}
use Rattle.saturation.specs.declared.relation.Cycle.{Cycle}
use Rattle.saturation.specs.declared.relation.Relation.{Relation}
use Rattle.search.specs.declared.walk.Choice.{Choice}
use Rattle.search.specs.declared.walk.Walk.{Walk}
use Rattle.search.specs.declared.walk.Progress.{Progress}
use Rattle.search.specs.declared.walk.Progress.TheVariants.{Running, Succeeded, Failed}

-- The choices on the way, the latest first.
abbrev pub choices_of : {N W T : ℕ} → Walk N W T → List Choice
choices_of w = reverse w.choices.items

-- The node that choices lead to from the pairs S: the chosen pairs in front of S.
abbrev pub node_of : List (ℕ × ℕ) → List Choice → List (ℕ × ℕ)
node_of S [] = S
node_of S (c ∷ cs) = (suc c.first, suc c.second) ∷ node_of S cs

-- The lower event comes first: the other way round was not tried yet.
abbrev pub one_way : Choice → Bool
one_way c = nat_lt c.first c.second

-- The nodes on the way whose second branch waits, the latest first.
abbrev pub waiting_of : List (ℕ × ℕ) → List Choice → List Waiting
waiting_of S [] = []
waiting_of S (c ∷ cs) = cond (one_way c) (record { pairs = node_of S cs; low = suc c.first; high = suc c.second } ∷ waiting_of S cs) (waiting_of S cs)

-- The lower event of the latest choice.
abbrev pub from_of : List Choice → ℕ
from_of [] = 0
from_of (c ∷ cs) = min c.first c.second

-- The relation leaves room for as many choices as it leaves pairs unordered, besides the k that were made.
abbrev pub Room : {N W T : ℕ} → ℕ → Relation N W T → Type 0
Room {N} {W} {T} k o = 2 * k + slack (earlier o) o.count ≤ 2 * T

-- From the relation o the way leads back to a relation of the node S, at which the choice c was made after k others, and
-- on from there.
pub record Back {N W T : ℕ} (h : History) (S : List (ℕ × ℕ)) (k : ℕ) (o : Relation N W T) (c : Choice) (On : Relation N W T → Type 0) : Type 0 where
  pub relation : Relation N W T
  pub kept : Kept relation o
  pub marked : mark_of relation ≡ c.mark
  pub exact : Exact h S relation
  pub room : Room k relation
  pub first : FirstUnordered h S (suc c.first) (suc c.second)
  pub on : On relation

-- The choice c, made at the node S after k others, is of two events, and if the other way round waits, there is a way back.
pub record Chosen {N W T : ℕ} (h : History) (S : List (ℕ × ℕ)) (k : ℕ) (o : Relation N W T) (c : Choice) (On : Relation N W T → Type 0) : Type 0 where
  pub first : c.first < count h
  pub second : c.second < count h
  pub back : one_way c ≡ true → Back h S k o c On

-- That is so of each choice on the way.
abbrev pub Way : {N W T : ℕ} → History → List (ℕ × ℕ) → List Choice → Relation N W T → Type 0
Way h S [] o = Unit {0}
Way h S (c ∷ cs) o = Chosen h (node_of S cs) (length cs) o c (Way h S cs) × Way h S cs o

-- What holds all along of a walk for the history h that began at the node S.
pub record Along {N W T : ℕ} (h : History) (S : List (ℕ × ℕ)) (w : Walk N W T) : Type 0 where
  pub well : WellFormed h
  pub pairs : PairsOfEvents h S
  pub facts : FactsOf h w.facts
  pub way : Way h S (choices_of w) w.relation

-- The relation o is that of the node S, at which the pair c is chosen next after k others.
pub record Next {N W T : ℕ} (h : History) (S : List (ℕ × ℕ)) (k : ℕ) (o : Relation N W T) (c : Choice) : Type 0 where
  pub exact : Exact h S o
  pub room : Room k o
  pub apart : free (earlier o) c.first c.second ≡ true
  pub lowest : OpenFrom h S (min c.first c.second)

-- The relation is that of the node before the one that comes next; at the first node, it is that node's unless it has a clash.
abbrev pub Ahead : {N W T : ℕ} → History → List (ℕ × ℕ) → Result Unit Cycle → Relation N W T → List Choice → Type 0
Ahead h S root o [] = MatchResult root (λ _. Exact h S o) (λ _. Clash h S)
Ahead h S root o (c ∷ cs) = Next h (node_of S cs) (length cs) o c

-- The walk has visited s nodes, and comes to the node that its choices lead to.
pub record Walking {N W T : ℕ} (h : History) (S : List (ℕ × ℕ)) (s : ℕ) (w : Walk N W T) : Type 0 where
  pub along : Along h S w
  pub ahead : Ahead h S w.root w.relation (choices_of w)
  pub comes : Comes h S (waiting_of S (choices_of w)) (node_of S (choices_of w)) s

-- The walk has come to a node without a clash, and the relation is that node's.
pub record Entered {N W T : ℕ} (h : History) (S : List (ℕ × ℕ)) (s : ℕ) (w : Walk N W T) : Type 0 where
  pub along : Along h S w
  pub exact : Exact h (node_of S (choices_of w)) w.relation
  pub room : Room (length (choices_of w)) w.relation
  pub lowest : OpenFrom h (node_of S (choices_of w)) (from_of (choices_of w))
  pub comes : Comes h S (waiting_of S (choices_of w)) (node_of S (choices_of w)) s

-- The walk has come to a node with a clash.
pub record Clashed {N W T : ℕ} (h : History) (S : List (ℕ × ℕ)) (s : ℕ) (w : Walk N W T) : Type 0 where
  pub along : Along h S w
  pub follows : Follows h S (waiting_of S (choices_of w)) (s + 1) fails

-- The search has succeeded, and the relation is that of the node where it did.
pub record Successful {N W T : ℕ} (h : History) (S : List (ℕ × ℕ)) (s : ℕ) (w : Walk N W T) : Type 0 where
  pub search : Search h S s (succeeds (node_of S (choices_of w)))
  pub exact : Exact h (node_of S (choices_of w)) w.relation

-- There is a history, with pairs that stand, that this is a walk for.
abbrev pub Walks : {N W T : ℕ} → Walk N W T → Type 0
Walks w = ∥ ((h : History) × (S : List (ℕ × ℕ)) × (s : ℕ) × Walking h S s w) ∥₁

abbrev pub Enters : {N W T : ℕ} → Walk N W T → Type 0
Enters w = ∥ ((h : History) × (S : List (ℕ × ℕ)) × (s : ℕ) × Entered h S s w) ∥₁

abbrev pub Clashes : {N W T : ℕ} → Walk N W T → Type 0
Clashes w = ∥ ((h : History) × (S : List (ℕ × ℕ)) × (s : ℕ) × Clashed h S s w) ∥₁

-- Where a search for the history h with the pairs S is after s nodes: it walks on, it has succeeded, or it has failed.
unfoldable pub After : {N W T : ℕ} → History → List (ℕ × ℕ) → ℕ → Walk N W T → Progress → Type 0
After h S s w Running = Walking h S s w
After h S s w Succeeded = Successful h S s w
After h S s w Failed = Search h S s fails
